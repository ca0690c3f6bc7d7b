-- The table of a label by its level: of another level only the extent is judged; of the others every row, with no word of the level.
-- Assumes nothing.
use Rattle.std.specs.Prelude.{ℕ, ◌≡◌, refl, Bool, true, false, not, ◌&&◌, List, [], ◌∷◌, drop}
use Rattle.standard.specs.Characters.{a_set}
use Rattle.standard.specs.Rules.{Row, row, lowest_fault}
use Rattle.standard.specs.Labels.{level, known_level, another_level, rule6, rule23, rule29, rule35, rule40, rule41, rule42, rule43, rule44, rule45, rule46, rule48, rule54, rule58, rule63, rule64, rule67, rule73, rule75, hdr1_rules}
use Rattle.standard.specs.declared.Geometry.{Geometry}

-- "Another level has only 1-4, 29-33, 35-39 and 44 judged."
unfoldable pub other_rows : Geometry → List ℕ → List Row
other_rows g h = row 29 (rule29 g h) ∷ row 35 (rule35 g h) ∷ []

unfoldable pub known_rows : Geometry → List ℕ → List Row
known_rows g h =
    row 6 (rule6 h)
    ∷ row 23 (rule23 g h)
    ∷ row 29 (rule29 g h)
    ∷ row 35 (rule35 g h)
    ∷ row 40 (rule40 h)
    ∷ row 41 (rule41 h)
    ∷ row 42 (rule42 h)
    ∷ row 43 (rule43 h)
    ∷ row 44 (rule44 h)
    ∷ row 45 (rule45 h)
    ∷ row 46 (rule46 h)
    ∷ row 48 (rule48 h)
    ∷ row 54 (rule54 g h)
    ∷ row 58 (rule58 g h)
    ∷ row 63 (rule63 h)
    ∷ row 64 (rule64 h)
    ∷ row 67 (rule67 h)
    ∷ row 73 (rule73 h)
    ∷ row 75 (rule75 g h)
    ∷ []

right_44 : (h : List ℕ) → another_level h ≡ true → rule44 h ≡ true
unfolding another_level rule44
right_44 h e = go (a_set (level h)) e
  where
    go : (a : Bool) → (a && not (known_level h)) ≡ true → a ≡ true
    go true e = refl
    go false e = e

module _ (g : Geometry) (h : List ℕ) where
  pub known_table : another_level h ≡ false → lowest_fault (drop 1 (hdr1_rules g h)) ≡ lowest_fault (known_rows g h)
  unfolding hdr1_rules known_rows
  known_table e = rw e

  pub other_table : another_level h ≡ true → lowest_fault (drop 1 (hdr1_rules g h)) ≡ lowest_fault (other_rows g h)
  unfolding hdr1_rules other_rows lowest_fault
  other_table e = rw (e, right_44 h e)
