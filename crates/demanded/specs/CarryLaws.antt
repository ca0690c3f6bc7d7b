-- What Writers rests on beside the promises. The carry of the data end: in a list of addresses that rises, the next address is the next of the list, where it
-- is one of the list at all; a record of the extent that is not defective is a good one. A list that has a record needs a block, and of a file without a block
-- no record is heard.
-- Assumes nothing.
use Prim.Native.Nat.{ℕ, zero, suc, ◌-◌, ◌*◌, ◌<◌, ◌≤◌}
use Rattle.std.specs.Prelude.{◌≡◌, Bool, cond, length, take, drop, Result, Ok, Err, ⊤}
use Rattle.std.proofs.Math.Path.{refl, sym, ap, subst}
use Rattle.std.proofs.Common.{◌∙◌, arith, le_refl, not-suc-le-zero, mul-le-mul_right, eq-eqb}
use Rattle.std.proofs.Math.Bool.{true, false}
use mathlib.Core.List.{List, [], ◌∷◌, Memᴰ}
use Rattle.std.proofs.Math.ListN.{get_or}
use Rattle.standard.specs.Layout.{label_at}
use Rattle.standard.specs.Addresses.{legal, rank, stepped, first_address}
use Rattle.standard.specs.Labels.{params_of, block_length, start_of, end_of, data_end_of}
use Rattle.standard.specs.Judgement.{judged}
use Rattle.standard.specs.Files.{extent, is_defective, good_among, good_records, records_to_block, blocks_held, data_end_at_start, block_count, open_refusal, blocks_from, file_in}
use Rattle.standard.specs.Pieces.{in_blocks}
use Rattle.standard.specs.Records.{Mode}
use Rattle.standard.specs.Listed.{Item, end, join, listed}
use Rattle.standard.specs.Places.{start}
use Rattle.standard.specs.Reading.{reply_in, opened, reply, read_answer, output_after}
use Rattle.standard.specs.Packing.{pack}
use Rattle.standard.specs.Writing.{parted, packing, needed, data_end_after}
use Rattle.standard.specs.declared.Geometry.{Geometry}
use Rattle.standard.specs.declared.Address.{Address}
use Rattle.standard.specs.declared.Refusal.{Refusal}
use Rattle.standard.specs.declared.Answer.{Answer}
use Rattle.promises.specs.Ground.Basics.{either, lt_or_le, by_test, never}
use Rattle.promises.specs.Ground.Lists.{every_at}
use Rattle.promises.specs.Images.AddressLaws.{rank_lt, step_rank, step_legal}
use Rattle.promises.specs.Volumes.AcceptedLaws.{InRange, bounds_extent}
use Rattle.promises.specs.Extents.ExtentAddresses.{Rising, Between, rising_every, good_rising}
use Rattle.promises.specs.Extents.ExtentWhole.{extent_has}
use Rattle.promises.specs.Writing.Laying.{pack_some, pack_none}
use Rattle.promises.specs.Writing.DataEnds.{later_at}
use Rattle.promises.proofs.Writing.WriteEnds.{end_of_some, end_of_all, record_there}
use Rattle.promises.specs.Reading.Following.{Heard, told, onward, following, heard_in}
use Rattle.promises.specs.Refusals.Refusing.{reply_on}
use Rattle.promises.proofs.Demands.{reading_gives}

-- one of a list stands somewhere in it
place_of : (xs : List Address) (a : Address) → Memᴰ a xs → (d : Address) → (i : ℕ) × (i < length xs) × (get_or xs i d ≡ a)
place_of [] a m d = absurd (mathlib.Core.List.Memᴰ.not-nil m)
place_of (x ∷ xs) a m d =
    either (mathlib.Core.List.Memᴰ.cases_cons m)
    (λ (e : a ≡ x). (0, omega arith, sym e))
    (λ (t : Memᴰ a xs). let (i, l, e) = place_of xs a t d in (suc i, omega arith, e))

module _ (g : Geometry) where
  rises : (lo hi : ℕ) (xs : List Address) → Rising g lo hi xs → (i j : ℕ) → i < j → j < length xs → (d : Address)
      → rank g (get_or xs i d) < rank g (get_or xs j d)
  rises lo hi [] r i j l k d = absurd (not-suc-le-zero k)
  rises lo hi (a ∷ xs) r i zero l k d = absurd (not-suc-le-zero l)
  rises lo hi (a ∷ xs) r zero (suc j) l k d = later_at g (rank g a) hi (a ∷ xs) (r.0, le_refl (rank g a), r.2, r.3) (suc j) k (omega arith) d
  rises lo hi (a ∷ xs) r (suc i) (suc j) l k d = rises (suc (rank g a)) hi xs r.3 i j (omega arith) (omega arith) d

  -- THE NEXT ADDRESS, where it is one of the list, is the next of the list
  next_is : (lo hi : ℕ) (xs : List Address) → Rising g lo hi xs → (i : ℕ) → suc i < length xs → (d : Address) → legal g (get_or xs i d) ≡ true
      → Memᴰ (stepped g (get_or xs i d)) xs → get_or xs (suc i) d ≡ stepped g (get_or xs i d)
  next_is lo hi xs r i l d la m =
      let (j, k, e) = place_of xs (stepped g (get_or xs i d)) m d in
      let s : rank g (get_or xs j d) ≡ suc (rank g (get_or xs i d)) = ap (rank g) e ∙ step_rank g (get_or xs i d) la in
      either (lt_or_le j i)
      (λ (b : j < i). absurd (omega (arith, s, rises lo hi xs r j i b (omega arith) d)))
      (λ (b : i ≤ j).
      either (lt_or_le (suc i) j)
      (λ (c : suc i < j). absurd (omega (arith, s, rises lo hi xs r i (suc i) (omega arith) l d, rises lo hi xs r (suc i) j c k d)))
      (λ (c : j ≤ suc i).
      either (lt_or_le i j)
      (λ (f : i < j). let q : suc i ≡ j = omega arith in ap (λ (x : ℕ). get_or xs x d) q ∙ e)
      (λ (f : j ≤ i).
      let q : j ≡ i = omega arith in
      absurd (omega (arith, s, ap (λ (x : ℕ). rank g (get_or xs x d)) q)))))

  -- "A record of the extent is defective if ..; it is skipped .. The others are good"
  good_has : (image : List ℕ) (xs : List Address) (a : Address) → Memᴰ a xs → is_defective g image a ≡ false → Memᴰ a (good_among g image xs)
  unfolding good_among
  good_has image [] a m f = absurd (mathlib.Core.List.Memᴰ.not-nil m)
  good_has image (x ∷ xs) a m f =
      either (mathlib.Core.List.Memᴰ.cases_cons m)
      (λ (e : a ≡ x).
      let q : is_defective g image x ≡ false = ap (is_defective g image) (sym e) ∙ f in
      subst (λ (t : Bool). Memᴰ a (cond t (good_among g image xs) (x ∷ good_among g image xs))) (sym q) (mathlib.Core.List.Memᴰ.head e))
      (λ (t : Memᴰ a xs). go (is_defective g image x) (good_has image xs a t f))
    where
      go : (t : Bool) → Memᴰ a (good_among g image xs) → Memᴰ a (cond t (good_among g image xs) (x ∷ good_among g image xs))
      go true k = k
      go false k = mathlib.Core.List.Memᴰ.tail k

-- ---- THE DATA END OF n BLOCKS, and the last record that they take: "blocks take m good records in turn", so the last of the first n·m good ones
module _ (g : Geometry) (image h : List ℕ) (range : InRange g h) (m_some : 1 ≤ records_to_block g h) (n : ℕ) (some : 0 < n)
    (enough : n * records_to_block g h ≤ length (good_records g image h)) where
  abbrev m : ℕ
  m = records_to_block g h

  abbrev good : List Address
  good = good_records g image h

  abbrev last : Address
  last = get_or good (n * m - 1) first_address

  rising : Rising g (rank g (start_of h)) (rank g (end_of h)) good
  rising = good_rising g h range image

  good_at : (i : ℕ) → i < length good → Between g (rank g (start_of h)) (rank g (end_of h)) (get_or good i first_address)
  good_at i l =
      every_at (Between g (rank g (start_of h)) (rank g (end_of h))) good (rising_every g (rank g (start_of h)) (rank g (end_of h)) good rising) i l first_address

  taken : 1 ≤ n * m
  taken = omega (arith, m_some, mul-le-mul_right m some)

  pub last_between : Between g (rank g (start_of h)) (rank g (end_of h)) last
  last_between = good_at (n * m - 1) (omega (arith, taken))

  before_next : n < blocks_held g image h → rank g last < rank g (get_or good (n * m) first_address)
  before_next l =
      rises g (rank g (start_of h)) (rank g (end_of h)) good rising (n * m - 1) (n * m) (omega (arith, taken)) (record_there g image h n m_some l) first_address

  pub end_behind_last : rank g last < rank g (data_end_after g image h n)
  end_behind_last =
      either (lt_or_le n (blocks_held g image h))
      (λ (l : n < blocks_held g image h). subst (λ (e : Address). rank g last < rank g e) (sym (end_of_some g image h n some l)) (before_next l))
      (λ (l : blocks_held g image h ≤ n).
      subst (λ (e : Address). rank g last < rank g e) (sym (end_of_all g image h n some l))
      (omega (arith, last_between.2, step_rank g (end_of h) range.end_legal)))

  -- between the last record and the next good one all records are defective
  pub defects_between : n < blocks_held g image h → (a : Address) → legal g a ≡ true → rank g last < rank g a → rank g a < rank g (data_end_after g image h n)
      → is_defective g image a ≡ true
  unfolding good_records
  defects_between l a la low high = by_test (is_defective g image a) (λ (yes : is_defective g image a ≡ true). yes) (λ (no : is_defective g image a ≡ false).
      let t = record_there g image h n m_some l in
      let k = ap (rank g) (end_of_some g image h n some l) in
      let b = last_between in
      let d = good_at (n * m) t in
      let i = bounds_extent g h (rank g a) (omega (arith, low, b.1)) (omega (arith, high, k, d.2)) in
      let (j, f, e) = place_of good a (good_has g image (extent g h) a (extent_has g h a range la i) no) first_address in
      let q = ap (rank g) e in
      either (lt_or_le j (n * m))
      (λ (c : j < n * m).
      either (lt_or_le j (n * m - 1))
      (λ (c' : j < n * m - 1).
      absurd (omega (arith, q, low, rises g (rank g (start_of h)) (rank g (end_of h)) good rising j (n * m - 1) c' (omega (arith, taken, enough)) first_address)))
      (λ (c' : n * m - 1 ≤ j).
      let z : j ≡ n * m - 1 = omega (arith, c, c', taken) in
      absurd (omega (arith, q, low, ap (λ (x : ℕ). rank g (get_or good x first_address)) z))))
      (λ (c : n * m ≤ j).
      either (lt_or_le (n * m) j)
      (λ (c' : n * m < j).
      absurd (omega (arith, q, k, high, rises g (rank g (start_of h)) (rank g (end_of h)) good rising (n * m) j c' f first_address)))
      (λ (c' : j ≤ n * m).
      let z : j ≡ n * m = omega (arith, c, c') in
      absurd (omega (arith, q, k, high, ap (λ (x : ℕ). rank g (get_or good x first_address)) z)))))

  -- a whole block is left, and the record behind is not defective: it is the next good one
  pub goes_on_inside : n < blocks_held g image h → is_defective g image (stepped g last) ≡ false → data_end_after g image h n ≡ stepped g last
  unfolding good_records
  goes_on_inside l right =
      let t = record_there g image h n m_some l in
      let b = last_between in
      let c = before_next l in
      let d = good_at (n * m) t in
      let s = step_rank g last b.0 in
      let o = rank_lt g (end_of h) range.end_legal in
      let k : suc (n * m - 1) ≡ n * m = omega (arith, taken) in
      let u = step_legal g last b.0 (omega (arith, c, d.2, o)) in
      let i = bounds_extent g h (rank g (stepped g last)) (omega (arith, s, b.1)) (omega (arith, s, c, d.2)) in
      let x = good_has g image (extent g h) (stepped g last) (extent_has g h (stepped g last) range u i) right in
      end_of_some g image h n some l
      ∙ ap (λ (j : ℕ). get_or good j first_address) (sym k)
      ∙ next_is g (rank g (start_of h)) (rank g (end_of h)) good rising (n * m - 1) (omega (arith, k, t)) first_address b.0 x

  -- the last record is the extent's end: no good one is behind it
  pub goes_on_end : last ≡ end_of h → data_end_after g image h n ≡ stepped g last
  goes_on_end e =
      either (lt_or_le n (blocks_held g image h))
      (λ (l : n < blocks_held g image h). absurd (omega (arith, before_next l, (good_at (n * m) (record_there g image h n m_some l)).2, ap (rank g) e)))
      (λ (l : blocks_held g image h ≤ n). end_of_all g image h n some l ∙ ap (stepped g) (sym e))

-- A LIST THAT HAS A RECORD NEEDS A BLOCK, and one that has none needs none
pub needed_some : (h bodies : List ℕ) (n : ℕ) (lengths : List ℕ) → 0 < needed h bodies (n ∷ lengths)
unfolding packing pack parted
needed_some h bodies n lengths = pack_some (params_of h).format (params_of h).R (params_of h).blocked (block_length h) _ (parted (drop n bodies) lengths)

pub needed_none : (h bodies : List ℕ) → needed h bodies [] ≡ 0
unfolding packing pack parted
needed_none h bodies = ap length (pack_none (params_of h).format (params_of h).R (params_of h).blocked (block_length h))

-- ---- A FILE WITHOUT A BLOCK: "The number of blocks is 0 if data end = start". No record is heard of it, only End or a refusal.
module _ (image : List ℕ) (g : Geometry) (slot : ℕ) (accepted : judged image ≡ Ok g)
    (empty : data_end_of (label_at g image slot) ≡ start_of (label_at g image slot)) where
  abbrev label : List ℕ
  label = label_at g image slot

  no_block : block_count g image label ≡ 0
  unfolding block_count data_end_at_start
  no_block = rw (eq-eqb (rank g (data_end_of label)) (rank g (start_of label)) (ap (rank g) empty))

  only_end : (mode : Mode) → listed mode (file_in g image label) ≡ end ∷ []
  unfolding listed join file_in blocks_from in_blocks
  only_end mode = rw no_block

  unopened : (mode : Mode) (out : List ℕ) (x : Refusal) → open_refusal g image slot ≡ Err x → read_answer mode image slot start out ≡ Err x
  unfolding reply
  unopened mode out x o =
      ap (λ (v : Result Geometry Refusal). (reply_on v mode image slot start (length out)).answer) accepted
      ∙ ap (λ (c : Result ⊤ Refusal). (opened c (reply_in mode (file_in g image label) start (length out))).answer) o

  pub no_record_heard : (mode : Mode) (k : ℕ) (out body : List ℕ) (more : List Heard) → following (suc k) mode image slot out start ≡ told body ∷ more → ⊥
  unfolding following heard_in
  no_record_heard mode k out body more h = go (open_refusal g image slot) refl
    where
      go : (c : Result ⊤ Refusal) → open_refusal g image slot ≡ c → ⊥
      go (Ok _) o =
          let e = sym (reading_gives image g slot accepted o mode (suc k) out ∙ ap (λ (is : List Item). heard_in (length out) (take (suc k) is)) (only_end mode)) ∙ h in
          never (cc)
      go (Err x) o =
          let e = sym (ap (λ (q : Result Answer Refusal). onward q (output_after mode image slot start out) (λ out' pl'. following k mode image slot out' pl')) (unopened mode out x o)) ∙ h in
          never (cc)
