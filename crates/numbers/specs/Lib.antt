-- A volume's numbers before and after ERMAP
pub mod Numbers
