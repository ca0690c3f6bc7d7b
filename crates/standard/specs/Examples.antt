-- Section "Twelve proved examples": one table, one theorem.
-- Assumes nothing.
use Rattle.std.specs.Prelude.{ℕ, ◌≡◌, refl, true, List, [], ◌∷◌, ◌++◌, map, length, replicate, eqb}
use Rattle.standard.specs.Characters.{bytes, byte, is_digit, digit_value, padded}
use Rattle.standard.specs.Defects.{skip_one, physical}
use Rattle.standard.specs.Addresses.{address_in, stepped}
use Rattle.standard.specs.Pieces.{number4, role_of, look_v, look_s, look, walk, pieces, in_block, in_blocks, ahead}
use Rattle.standard.specs.Records.{salvage, first_met, step}
use Rattle.standard.specs.Listed.{Item, rec, gap, end, enough, read_on, read_all}
use Rattle.standard.specs.Files.{addresses_from}
use Rattle.standard.specs.Packing.{Packing, unused_in, record_v, lay_v, segment, spread, lay_s, pack, file_of}
use Rattle.standard.specs.Writing.{next_data_end}
use Rattle.standard.specs.Damage.{damage, damaged}
use Rattle.standard.specs.Labels.{variable, spanned, Params}
use Rattle.standard.specs.declared.Geometry.{Geometry}
use Rattle.standard.specs.declared.Address.{Address}

-- a volume with L, D, S and defects d1, d2
abbrev volume : ℕ → ℕ → ℕ → ℕ → ℕ → Geometry
volume L D S d1 d2 = record { L = L; I = 8; D = D; k = 0; P = 128; S = S; d1 = d1; d2 = d2 }

-- 6 and 7: the extent 01001 to 01008 of a volume with D = 8, all its records good; all but the third
abbrev eight_good : List Address
eight_good = addresses_from (volume 5 8 1 0 0) 8 (address_in (bytes "01001"))

abbrev seven_good : List Address
seven_good = addresses_from (volume 5 8 1 0 0) 2 (address_in (bytes "01001")) ++ addresses_from (volume 5 8 1 0 0) 5 (address_in (bytes "01004"))

abbrev data_end : List Address → ℕ → Address
data_end good n = next_data_end (volume 5 8 1 0 0) (address_in (bytes "01001")) (address_in (bytes "01008")) 2 good n

-- 8: V, B = R = 30; 9 to 12: S, B = 20, R = 0000. Bodies of so many bytes.
abbrev v30 : Params
v30 = record { format = variable; R = 30; blocked = true }

abbrev s20 : Params
s20 = record { format = spanned; R = 0; blocked = true }

abbrev written8 : Packing
written8 = pack v30 30 (replicate 10 (byte "A") ∷ replicate 10 (byte "B") ∷ replicate 10 (byte "C") ∷ [])

abbrev written9 : Packing
written9 = pack s20 20 (bytes "AAAAAAAA" ∷ bytes "BBBBBBBBBBBB" ∷ bytes "CCC" ∷ [])

abbrev written12 : Packing
written12 = pack s20 20 (replicate 20 (byte "A") ∷ replicate 20 (byte "B") ∷ [])

-- what salvage gives of a written file with one block lost
abbrev salvaged : Packing → ℕ → List Item
salvaged w lost = read_all salvage (damaged (λ b. eqb b lost) (file_of s20 w.contents))

abbrev record_in : List ℕ → ℕ → ℕ → Item
record_in body from to = rec (record { body = body; first_block = from; last_block = to })

pub examples :
    -- "1. D=8, S=2: 01008 steps to 01101."
    (stepped (volume 5 8 2 0 0) (address_in (bytes "01008")) ≡ address_in (bytes "01101"))
    -- "2. 01108 to 02001."
    × (stepped (volume 5 8 2 0 0) (address_in (bytes "01108")) ≡ address_in (bytes "02001"))
    -- "3. S=1, L=5: 05008 to 06001."
    × (stepped (volume 5 8 1 0 0) (address_in (bytes "05008")) ≡ address_in (bytes "06001"))
    -- "4. d1=10, d2=11: cylinder 9 is 9, 10 is 12."
    × (map (physical (volume 73 8 1 10 11)) (9 ∷ 10 ∷ []) ≡ 9 ∷ 12 ∷ [])
    -- "5. L=73, d1=73, d2=74: 72 is 72, 73 is 75."
    × (map (physical (volume 73 8 1 73 74)) (72 ∷ 73 ∷ []) ≡ 72 ∷ 75 ∷ [])
    -- "6. 8 good, m=2, 3 blocks: data end at the 7th; 4 blocks: past the end."
    × (map (data_end eight_good) (3 ∷ 4 ∷ []) ≡ address_in (bytes "01007") ∷ address_in (bytes "02001") ∷ [])
    -- "7. 7 good, m=2, 3 blocks: past the end."
    × (data_end seven_good 3 ≡ address_in (bytes "02001"))
    -- "8. V, B=R=30, bodies 10, 10, 10: two blocks, U=16."
    × ((length written8.contents ∷ written8.U ∷ []) ≡ 2 ∷ 16 ∷ [])
    -- "9. S, B=20, R=0000, bodies 8, 12, 3: `00013`; `10007` with 2 bytes; `30015` with 10; a third block `00008`; U=12."
    × (written9 ≡ record {
      contents = bytes "00013AAAAAAAA10007BB" ∷ (bytes "30015BBBBBBBBBB" ++ replicate 5 0) ∷ bytes "00008CCC" ∷ [];
      U = 12;
    })
    -- "10. In 9, block 1 (of 0 to 2) lost: body 8, gap, body 3."
    × (salvaged written9 1 ≡ record_in (bytes "AAAAAAAA") 0 0 ∷ gap 1 ∷ record_in (bytes "CCC") 2 2 ∷ end ∷ [])
    -- "11. Block 0 lost: gap, body 3."
    × (salvaged written9 0 ≡ gap 0 ∷ record_in (bytes "CCC") 2 2 ∷ end ∷ [])
    -- "12. S, B=20, bodies 20, 20, middle block of three lost: one gap only."
    × ((length written12.contents ≡ 3) × (salvaged written12 1 ≡ gap 1 ∷ end ∷ []))
unfolding is_digit digit_value padded number4 role_of look_v look_s address_in stepped skip_one physical addresses_from next_data_end unused_in record_v lay_v segment spread lay_s pack file_of damage damaged look walk pieces in_block in_blocks ahead first_met step enough read_on read_all
examples = (refl, refl, refl, refl, refl, refl, refl, refl, refl, refl, refl, (refl, refl))
