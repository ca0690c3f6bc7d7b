-- By the format.
-- Assumes nothing.
use Rattle.laying.proofs.DeskLaws.{listed_fixed, listed_variable, listed_spanned}
use Rattle.laying.proofs.lay_list.Goals as goal

pub returns-in-Fixed : goal.returns-in-Fixed
returns-in-Fixed c R tiled =
    listed_fixed _ _ _ _ _ _ _ _ _ _ _ c.requires.5 _ c.requires.3 c.in-Fixed.is tiled c.lay_blocks.ensures

pub returns-in-Variable : goal.returns-in-Variable
returns-in-Variable c R tiled =
    listed_variable _ _ _ _ _ _ _ _ _ _ _ c.requires.5 _ c.requires.3 c.in-Variable.is c.requires.1 c.lay_records.ensures

pub returns-in-Spanned : goal.returns-in-Spanned
returns-in-Spanned c R tiled =
    listed_spanned _ _ _ _ _ _ _ _ _ _ _ c.requires.5 _ c.requires.3 c.in-Spanned.is c.lay_records-in-Spanned.ensures
