-- What no answer hangs on. "Kind 32+k: check failed, body not trusted"; "sectors 01-04 and 06 are not judged beyond kind"; of VOL1 and ERMAP, "all other positions are
-- not judged": two images equal but for such bytes are judged alike, asked alike, and left alike by what changes them.
pub mod JudgedAlike
pub mod AnswersAlike
pub mod LeftAlike
pub mod ChangesAlike
