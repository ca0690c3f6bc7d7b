-- The a-set
pub mod CharacterLaws
-- One turn of each loop, and its end
pub mod LoopLaws
-- Fields of a fixed width, and the numbers that they spell
pub mod NumberLaws
-- A number, where there is one
pub mod PerhapsLaws
-- A table's rows in order
pub mod RowLaws
-- Five digits as an address
pub mod AddressLaws
