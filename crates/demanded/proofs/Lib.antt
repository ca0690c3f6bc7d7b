-- Of functions that read; of functions that write, and what that rests on.
pub mod Readers
pub mod Writers
