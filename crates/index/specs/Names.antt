-- The numbers by which most names are told apart.
-- Assumes nothing.
use Rattle.std.specs.Prelude.{◌≡◌, ℕ, ◌+◌, ◌*◌, ◌%◌, ◌^◌, ◌<◌, List, slice_index}
use Rattle.standard.specs.Layout.{label_at}
use Rattle.standard.specs.Labels.{name_of}
use Rattle.standard.specs.declared.Geometry.{Geometry}

-- two, four and eight bytes as one number
abbrev pub two_from : List ℕ → ℕ → ℕ
two_from s i = slice_index s i + slice_index s (i + 1) * 256

abbrev pub four_from : List ℕ → ℕ → ℕ
four_from s i = two_from s i + two_from s (i + 2) * 65536

abbrev pub eight_from : List ℕ → ℕ → ℕ
eight_from s i = four_from s i + four_from s (i + 4) * 4294967296

-- a name's beginning and end in one number: names with different numbers differ. (Names with one number may differ too, and are compared.)
unfoldable pub key_of : List ℕ → ℕ
key_of name = (eight_from name 0 + eight_from name 9) % 2 ^ 64

abbrev pub key_in : Geometry → List ℕ → ℕ → ℕ
key_in g image slot = key_of (name_of (label_at g image slot))

-- a row holds these numbers for the slots 1 to n, of whatever stands there
abbrev pub Keyed : Geometry → List ℕ → List ℕ → ℕ → Type 0
Keyed g image keys n = (j : ℕ) → j < n → slice_index keys j ≡ key_in g image (j + 1)
