-- The lines as their parts in a row.
-- Assumes nothing.
use Rattle.std.specs.Prelude.{Ok, Err}
use Prim.Native.Nat.{ℕ, suc, ◌+◌, ◌-◌, ◌<◌, ◌≤◌}
use mathlib.Core.Path.{◌≡◌}
use mathlib.Core.Bool.{true, false}
use mathlib.Core.List.{List, [], ◌∷◌, ◌++◌, append_assoc}
use lib.ListN.{length}
use lib.Dec.{ltb, eqb}
use borrow.Author.Tests.{lt-ltb, le-ltb, ltb-false}
use native.Mathlib.Omega.{arith}
use Rattle.standard.specs.Characters.{bytes, shown}
use Rattle.standard.specs.Addresses.{five_bytes}
use Rattle.standard.specs.Layout.{vol1_of, slot_count, label_at}
use Rattle.standard.specs.Volume.{volume_name}
use Rattle.standard.specs.Slots.{is_label}
use Rattle.standard.specs.Free.{free_records}
use Rattle.standard.specs.Labels.{level, known_level, name_of, format_of, block_length, record_length, start_of, end_of, unused_count}
use Rattle.standard.specs.Files.{count_in}
use Rattle.standard.specs.Listing.{newline, level_shown, format_shown, blocked_shown, count_shown, volume_line, known_line, other_line, label_line, lines_from, refused_line, listing}
use Rattle.standard.specs.Judgement.{judged}
use Rattle.promises.specs.Volumes.Judging.{accepted, not_given}
use Rattle.standard.specs.declared.Geometry.{Geometry}
use Rattle.standard.specs.declared.Refusal.{Refusal}
use Rattle.lines.specs.Parts.{numbers_shown, first_fields, extent_fields, last_fields, fields_in_a_row, line_in}

-- fields and bars in a row, however they are grouped
in_a_row : (s n : List ℕ) (l f b : ℕ) (B R st en co u e : List ℕ)
    → (s ++ ((124 ∷ n) ++ (124 ∷ l ∷ 124 ∷ f ∷ 124 ∷ b ∷ []))) ++ ((124 ∷ B) ++ ((124 ∷ R) ++ (((124 ∷ st) ++ (124 ∷ en)) ++ ((124 ∷ co) ++ ((124 ∷ u) ++ e)))))
    ≡ s ++ (124 ∷ (n ++ (124 ∷ l ∷ 124 ∷ f ∷ 124 ∷ b ∷ 124 ∷ (B ++ (124 ∷ (R ++ (124 ∷ (st ++ (124 ∷ (en ++ (124 ∷ (co ++ (124 ∷ (u ++ e))))))))))))))
in_a_row s n l f b B R st en co u e = simp append_assoc

spaced : (a n f e : List ℕ) → ((a ++ n) ++ (32 ∷ f)) ++ e ≡ a ++ n ++ (32 ∷ f) ++ [] ++ e
spaced a n f e = simp append_assoc

spaced_two : (a n f s e : List ℕ) → ((a ++ n) ++ (32 ∷ f)) ++ ((32 ∷ s) ++ e) ≡ a ++ n ++ (32 ∷ f) ++ (32 ∷ s) ++ e
spaced_two a n f s e = simp append_assoc

pub known_is : (g : Geometry) (image : List ℕ) (slot : ℕ) (h : List ℕ)
    → fields_in_a_row slot h (count_in g image slot) ≡ known_line g image slot h
unfolding fields_in_a_row known_line first_fields extent_fields last_fields
known_is g image slot h =
    in_a_row (shown slot) (name_of h) (level_shown h) (format_shown (format_of h)) (blocked_shown h) (shown (block_length h)) (shown (record_length h))
    (five_bytes (start_of h)) (five_bytes (end_of h)) (count_shown (count_in g image slot)) (shown (unused_count h)) newline

pub other_is : (slot : ℕ) (h : List ℕ)
    → shown slot ++ (bytes "|?|" ++ ((level h ∷ []) ++ (bytes "|?|?|?|?" ++ (extent_fields h ++ bytes "|?|?\n")))) ≡ other_line slot h
unfolding other_line extent_fields
other_is slot h = simp append_assoc

pub refused_one : (r : Refusal) → eqb r.number 10 ≡ false
    → ((bytes "REFUSED " ++ shown r.number) ++ (bytes " " ++ shown r.first)) ++ newline ≡ refused_line r
refused_one r h = rw h (spaced (bytes "REFUSED ") (shown r.number) (shown r.first) newline)

pub refused_two : (r : Refusal) → eqb r.number 10 ≡ true
    → ((bytes "REFUSED " ++ shown r.number) ++ (bytes " " ++ shown r.first)) ++ ((bytes " " ++ shown r.second) ++ newline) ≡ refused_line r
refused_two r h = rw h (spaced_two (bytes "REFUSED ") (shown r.number) (shown r.first) (shown r.second) newline)

-- one line of a label, by its level
pub line_known : (g : Geometry) (image : List ℕ) (slot : ℕ) (h : List ℕ) → known_level h ≡ true → fields_in_a_row slot h (count_in g image slot) ≡ label_line g image slot h
unfolding label_line
line_known g image slot h k = rw k (known_is g image slot h)

pub line_other : (g : Geometry) (image : List ℕ) (slot : ℕ) (h : List ℕ) → known_level h ≡ false → other_line slot h ≡ label_line g image slot h
unfolding label_line
line_other g image slot h k = rw k

pub no_line : (g : Geometry) (image : List ℕ) (slot : ℕ) → is_label g image slot ≡ false → [] ≡ line_in g image slot
no_line g image slot h = rw h

pub a_line : (g : Geometry) (image : List ℕ) (slot : ℕ) → is_label g image slot ≡ true → label_line g image slot (label_at g image slot) ≡ line_in g image slot
a_line g image slot h = rw h

-- the lines of the slots from one on
lines_go : (g : Geometry) (image : List ℕ) (slot left k : ℕ) → left ≡ suc k → lines_from g image left slot ≡ line_in g image slot ++ lines_from g image k (slot + 1)
unfolding lines_from
lines_go g image slot left k e = rw e

pub lines_more : (g : Geometry) (image : List ℕ) (n slot : ℕ) → slot ≤ n
    → lines_from g image (n + 1 - slot) slot ≡ line_in g image slot ++ lines_from g image (n + 1 - (slot + 1)) (slot + 1)
lines_more g image n slot h = lines_go g image slot (n + 1 - slot) (n + 1 - (slot + 1)) (omega arith)

pub lines_end : (g : Geometry) (image : List ℕ) (n slot : ℕ) → n < slot → lines_from g image (n + 1 - slot) slot ≡ []
unfolding lines_from
lines_end g image n slot h = let e : n + 1 - slot ≡ 0 = omega arith in rw e

-- the volume line
seven : (a b l i d p s f e l' i' d' p' s' f' : List ℕ)
    → a ++ (b ++ (((l ++ l') ++ ((i ++ i') ++ ((d ++ d') ++ ((p ++ p') ++ (s ++ s'))))) ++ ((f ++ f') ++ e)))
    ≡ a ++ b ++ l ++ l' ++ i ++ i' ++ d ++ d' ++ p ++ p' ++ s ++ s' ++ f ++ f' ++ e
seven a b l i d p s f e l' i' d' p' s' f' = simp append_assoc

pub volume_is : (g : Geometry) (image : List ℕ)
    → bytes "VOLUME " ++ (volume_name (vol1_of image) ++ (numbers_shown g ++ ((bytes " FREE=" ++ shown (free_records g image)) ++ newline))) ≡ volume_line g image
unfolding volume_line numbers_shown
volume_is g image =
    seven (bytes "VOLUME ") (volume_name (vol1_of image)) (bytes " L=") (bytes " I=") (bytes " D=") (bytes " P=") (bytes " S=") (bytes " FREE=") newline
    (shown g.L) (shown g.I) (shown g.D) (shown g.P) (shown g.S) (shown (free_records g image))

-- the exits of a listing
pub listing_long : (image : List ℕ) → 65536 < length image → bytes "TOO LONG\n" ≡ listing image
unfolding listing
listing_long image h = simp (lt-ltb 65536 (length image) h)

pub listing_refused : (image : List ℕ) (r : Refusal) → length image ≤ 65536 → judged image ≡ Err r → refused_line r ≡ listing image
unfolding listing
listing_refused image r h j = simp (le-ltb 65536 (length image) h, j)

pub listing_volume : (image : List ℕ) (g : Geometry) → length image ≤ 65536 → judged image ≡ Ok g
    → volume_line g image ++ lines_from g image (slot_count g) 1 ≡ listing image
unfolding listing
listing_volume image g h j = simp (le-ltb 65536 (length image) h, j)

-- an accepted image has the seven sectors that end with VOL1
pub long_enough : (image : List ℕ) (g : Geometry) → judged image ≡ Ok g → 903 ≤ length image
long_enough image g j = ltb-false (length image) 903 (not_given (ltb (length image) 903) _ (accepted image g j).long)
