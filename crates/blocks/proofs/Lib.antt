-- The bytes ahead of a cursor
pub mod StreamLaws
-- The blocks of a file among them
pub mod BlockLaws
-- Fill, record by record
pub mod FillLaws
-- Copying, record by record
pub mod CopyLaws
-- Lost blocks
pub mod LostLaws
