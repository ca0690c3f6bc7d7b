-- A walk's block in the file, and what each exit of a turn says.
-- Assumes nothing.
use Rattle.std.specs.Prelude.{Result, Ok, Err}
use Prim.Native.Nat.{ℕ, suc, ◌+◌, ◌-◌, ◌*◌, ◌<◌, ◌≤◌}
use mathlib.Core.Path.{◌≡◌, refl, sym, ap, subst, ◌∙◌}
use mathlib.Core.Bool.{true, false}
use mathlib.Core.List.{List, [], ◌∷◌, ◌++◌, append-nil}
use lib.ListN.{length, take, drop, length-take, length-drop}
use lib.Seq.{take-take}
use lib.Dec.{eqb}
use native.Mathlib.Omega.{arith}
use native.Mathlib.Nat.{mul-le-mul_right}
use Rattle.standard.specs.Pieces.{Block, lost_block, held, Piece, piece, is_fill, look, look_in, ahead}
use Rattle.standard.specs.Records.{State, Met, took, refuse21, at_lost, first_met}
use Rattle.standard.specs.Files.{good_records, records_to_block, content_size, any_failed, bytes_of, block_of, blocks_from, file_in}
use Rattle.standard.specs.declared.Geometry.{Geometry}
use Rattle.standard.specs.declared.Place.{Place}
use Rattle.standard.specs.declared.Address.{Address}
use Rattle.promises.specs.Ground.Basics.{cond_elim}
use Rattle.labels.specs.Forms.{format_for}
use Rattle.extents.specs.Cursors.{standing}
use Rattle.extents.specs.declared.Cursor.{Cursor}
use Rattle.opening.specs.Opened.{label_in, file_of, size_at, Seated}
use Rattle.opening.specs.declared.FileNumbers.{FileNumbers}
use Rattle.opening.proofs.OpenedLaws.{Facts, facts, size_is}
use Rattle.blocks.specs.Streams.{stream}
use Rattle.blocks.proofs.StreamLaws.{standing_legal, stream_in, stream_long}
use Rattle.blocks.proofs.BlockLaws.{block_at, rest_is, drop_take}
use Rattle.blocks.specs.Roles.{role_for, completes_by}
use Rattle.blocks.specs.declared.Role.{Role}
use Rattle.pieces.specs.Looks.{head_of}
use Rattle.walks.specs.declared.Mode.{Mode}
use Rattle.walks.specs.declared.Mode.TheVariants.{Plain, Salvage}
use Rattle.pieces.specs.declared.Seen.TheVariants.{Blank, Broken}
use Rattle.pieces.proofs.LookLaws.{seen_blank, seen_broken, seen_part}
use Rattle.walks.specs.Stands.{length_of, state_with, limit_of, meet_by, met_with, lost_by}
use Rattle.walks.specs.Walks.{mode_of, met_from, Walking, Entered, rest_at, seen_at, body_ahead, NotLost, PartAt, limit_by, Reached, grown, to_go, Turned}
use Rattle.walks.specs.declared.Stand.{Stand}
use Rattle.walks.specs.declared.Move.{Move}
use Rattle.walks.specs.declared.Move.TheVariants.{Deliver, Carry, Breach}
use Rattle.walks.specs.declared.Measured.{Measured}
use Rattle.walks.specs.declared.Measured.TheVariants.{Took}
use Rattle.walks.specs.declared.Walk.{Walk}
use Rattle.walks.specs.declared.Turn.TheVariants.{Done, On}
use Rattle.walks.proofs.StandLaws.{deliver_says, carry_length, carry_state}
use Rattle.standard.specs.declared.Refusal.{Refusal}
use Rattle.walks.proofs.TurnLaws.{turn_lost, turn_blank, turn_broken, turn_takes, turn_breach, turn_on, turn_next, turn_stops}

pub size_most : (f : FileNumbers) (b : ℕ) → size_at f b ≤ f.B
unfolding size_at
size_most f b = cond_elim (λ n. n ≤ f.B) (eqb (b + 1) f.count) (λ _. omega arith) (λ _. omega arith)

pub walking_next : (image : List ℕ) (f : FileNumbers) (v : Walk) (b : ℕ) → v.place.block ≡ b + 1 → v.place.offset ≡ 0 → Seated image f (b + 1) v.at → b < f.count
    → length_of v.stand ≤ (b + 1) * 65536 → Walking image f v
walking_next image f v b p q s l n = rw (p, q) (s, omega (arith, l), omega arith, omega (arith, n))

-- the rest of a block's content, as the code comes to it
pub stream_from : (g : Geometry) (image : List ℕ) (c : Cursor) (i : ℕ) → stream g image c i ≡ drop i (stream g image c 0)
unfolding stream
stream_from g image c i = refl

pub rest_by : (image : List ℕ) (f : FileNumbers) (w : Walk) (from size n : ℕ) (s : List ℕ) → size ≡ size_at f w.place.block → n ≡ size - from
    → s ≡ drop from (stream f.g image w.at 0) → take n s ≡ rest_at image f w from
rest_by image f w from size n s p q e =
    ap (take n) (e ∙ sym (stream_from f.g image w.at from)) ∙ ap (λ (i : ℕ). take i (stream f.g image w.at from)) (q ∙ ap (λ (i : ℕ). i - from) p)

module _ (image : List ℕ) (f : FileNumbers) (w : Walk) (e : Entered image f w) where
  abbrev k : Facts image f
  k = facts image f e.0

  abbrev b : ℕ
  b = w.place.block

  abbrev o : ℕ
  o = w.place.offset

  abbrev records : List Address
  records = take f.m (standing f.g image w.at)

  abbrev tail : List Block
  tail =
      let h = label_in image f in
      let m = records_to_block f.g h in
      blocks_from f.g image h (f.count - suc b) (drop m (drop (b * m) (good_records f.g image h)))

  abbrev taken : List Address
  taken = let h = label_in image f in let m = records_to_block f.g h in take m (drop (b * m) (good_records f.g image h))

  -- ITS BLOCK
  in_file_lem : drop b (file_of image f).blocks
      ≡ block_of f.g image (content_size (label_in image f) (f.count - suc b)) taken ∷ tail
  unfolding file_in
  in_file_lem = block_at f.g image (label_in image f) b _ (f.count - suc b) (good_records f.g image (label_in image f)) (omega (arith, k.count_is, e.2))

  the_records : taken ≡ records
  the_records =
      ap (λ (m : ℕ). take m (drop (b * m) (good_records f.g image (label_in image f)))) (sym k.m_is) ∙ ap (take f.m) (sym e.1.0.0)

  block_is : drop b (file_of image f).blocks ≡ block_of f.g image (size_at f b) records ∷ tail
  block_is =
      in_file_lem
      ∙ (ap (λ (n : ℕ). block_of f.g image n taken ∷ tail) (sym (size_is image f e.0 b e.2))
      ∙ ap (λ (xs : List Address). block_of f.g image (size_at f b) xs ∷ tail) the_records)

  abbrev content : List ℕ
  content = take (size_at f b) (bytes_of f.g image records)

  block_lost : any_failed f.g image records ≡ true → block_of f.g image (size_at f b) records ≡ lost_block (size_at f b)
  unfolding block_of
  block_lost h = rw h

  block_held : NotLost image f w → block_of f.g image (size_at f b) records ≡ held content
  unfolding block_of
  block_held h = rw h

  lost_is : any_failed f.g image records ≡ true → drop b (file_of image f).blocks ≡ lost_block (size_at f b) ∷ tail
  lost_is h = block_is ∙ ap (λ (x : Block). x ∷ tail) (block_lost h)

  held_is : NotLost image f w → drop b (file_of image f).blocks ≡ held content ∷ tail
  held_is h = block_is ∙ ap (λ (x : Block). x ∷ tail) (block_held h)

  -- THE REST OF ITS CONTENT
  rest_of : (i : ℕ) → drop i content ≡ rest_at image f w i
  unfolding stream
  rest_of i =
      rest_is f.g image k.long f.m (size_at f b) i (standing f.g image w.at) (standing_legal f.g image w.at e.1.0.1)
      (omega (arith, size_most f b, k.fits))

  content_there : size_at f b ≤ length (stream f.g image w.at 0)
  unfolding stream
  content_there =
      let good = good_records f.g image (label_in image f) in
      let enough : f.m ≤ length (standing f.g image w.at) =
      rw (e.1.0.0, length-drop (b * f.m) good) (omega (arith, k.held, mul-le-mul_right f.m e.2)) in
      omega (arith, stream_long f.g image w.at f.m enough (k.long, k.P-low) e.1.0.1, size_most f b, k.fits)

  pub rest_there : (from size n : ℕ) (s : List ℕ) → size ≡ size_at f b → n ≡ size - from → s ≡ drop from (stream f.g image w.at 0) → n ≤ length s
  rest_there from size n s p q r = rw (r, length-drop from (stream f.g image w.at 0)) (omega (arith, p, q, content_there))

  abbrev looked : Piece
  looked = look_in (format_for f.form) f.R f.blocked o (rest_at image f w o)

  params_are : ((file_of image f).params.format ≡ format_for f.form) × ((file_of image f).params.R ≡ f.R) × ((file_of image f).params.blocked ≡ f.blocked)
  unfolding file_in
  params_are = (sym k.format, sym k.R-is, sym k.blocked_is)

  limit_is : limit_of (file_of image f).params ≡ limit_by f
  limit_is = rw (params_are.0, params_are.1)

  look_is : look (file_of image f).params o (drop o content) ≡ looked
  unfolding look
  look_is = rw (params_are.0, params_are.1, params_are.2, rest_of o)

  -- what a reader meets at another place
  abbrev met_at : Mode → ℕ → ℕ → State → Met
  met_at s i j st = first_met (mode_of s) (file_of image f).params (ahead (file_of image f).params (file_of image f).blocks i j) st

  met_at_lem : (s : Mode) (v : Walk) (i j : ℕ) (t : Stand) (body : List ℕ) → v.place.block ≡ i → v.place.offset ≡ j → v.stand ≡ t
      → met_at s i j (state_with body t) ≡ met_from image f s v body
  met_at_lem s v i j t body p q r = rw (p, q, r)

  -- THE EXITS OF A TURN
  gap_is : (i : ℕ) → ◌≡◌ {A = Met} (at_lost (mode_of Salvage) i) (met_with [] (lost_by Salvage i))
  gap_is i = let q : suc i - 1 ≡ i = omega arith in rw q

  pub turned_lost : (s : Mode) (x : Result Measured Refusal) → any_failed f.g image records ≡ true → x ≡ lost_by s b → Turned image f s w (Done x)
  turned_lost s x h q = subst (λ (y : Result Measured Refusal). Turned image f s w (Done y)) (sym q) (go s)
    where
      go : (s : Mode) → Turned image f s w (Done (lost_by s b))
      go Salvage = (λ body n. turn_lost (mode_of Salvage) (file_of image f).params (file_of image f).blocks b o (state_with body w.stand) (size_at f b) tail (lost_is h) ∙ gap_is b, tt)
      go Plain = (λ body n. turn_lost (mode_of Plain) (file_of image f).params (file_of image f).blocks b o (state_with body w.stand) (size_at f b) tail (lost_is h), tt)

  pub turned_broken : (s : Mode) (x : Result Measured Refusal) → NotLost image f w → Broken ≡ seen_at image f w → x ≡ Err (refuse21 b o) → Turned image f s w (Done x)
  turned_broken s x h l q =
      subst (λ (y : Result Measured Refusal). Turned image f s w (Done y)) (sym q) (
        λ body n. turn_broken (mode_of s) (file_of image f).params (file_of image f).blocks b o content tail (held_is h) (state_with body w.stand) (look_is ∙ seen_broken looked l),
        tt,
      )

  -- the next block's start
  further : (v : Walk) → v.place.block ≡ b + 1 → v.place.offset ≡ 0 → to_go f v < to_go f w
  further v p q = rw (p, q) (omega (arith, e.1.2, e.2))

  pub turned_blank : (s : Mode) (v : Walk) → NotLost image f w → Blank ≡ seen_at image f w → Walking image f v → v.place.block ≡ b + 1 → v.place.offset ≡ 0
      → v.stand ≡ w.stand → Turned image f s w (On v)
  turned_blank s v h l y p q r =
      let z : b + 1 ≡ suc b = omega arith in
      let len : length_of v.stand ≡ length_of w.stand = ap length_of r in
      let none : length_of v.stand - length_of w.stand ≡ 0 = omega (arith, len) in (
        λ body n.
            turn_blank (mode_of s) (file_of image f).params (file_of image f).blocks b o content tail (held_is h) (state_with body w.stand) (look_is ∙ seen_blank looked l)
            ∙ (met_at_lem s v (suc b) 0 w.stand body (p ∙ z) q r
            ∙ ap (met_from image f s v) (sym (append-nil body) ∙ ap (λ (i : ℕ). body ++ take i (body_ahead image f w)) (sym none))),
        (omega (arith, len), omega (arith, len), omega (arith, len)),
        y,
        further v p q,
      )

  -- A RECORD OR SEGMENT
  module _ (role : Role) (size : ℕ) (part : PartAt image f w role size) where
    abbrev head : ℕ
    head = head_of f.form

    abbrev segment : List ℕ
    segment = take (size - head) (drop head (rest_at image f w o))

    said : (looked ≡ piece (role_for role) segment size) × (head ≤ size) × (1 ≤ size) × (size ≤ length (rest_at image f w o))
    said = let x = seen_part f.form f.R f.blocked o (rest_at image f w o) role size part.1 in (x.0, x.1, x.2, x.3)

    inside : size ≤ size_at f b - o
    inside = omega (arith, said.3, length-take (size_at f b - o) (stream f.g image w.at o))

    there : size ≤ length (stream f.g image w.at o)
    there = omega (arith, said.3, length-take (size_at f b - o) (stream f.g image w.at o))

    segment_is : segment ≡ take (size - head) (body_ahead image f w)
    segment_is =
        ap (take (size - head)) (drop_take head (size_at f b - o) (stream f.g image w.at o))
        ∙ take-take (size - head) (size_at f b - o - head) (drop head (stream f.g image w.at o)) (omega (arith, said.1, inside))
        ∙ ap (take (size - head)) (sym (stream_in f.g image w.at o head))

    ahead_long : size - head ≤ length (body_ahead image f w)
    ahead_long = rw (stream_in f.g image w.at o head, length-drop head (stream f.g image w.at o)) (omega (arith, there))

    segment_long : length segment ≡ size - head
    segment_long = rw segment_is (omega (arith, ahead_long, length-take (size - head) (body_ahead image f w)))

    pub small : size < 65536
    small = omega (arith, inside, size_most f b, k.B-low)

    pub end_low : o + size < 65536
    end_low = omega (arith, inside, said.2, size_most f b, k.B-low)

    met_by : (mv : Move) → mv ≡ meet_by (limit_by f) w.stand role (size - head) b → mv ≡ meet_by (limit_of (file_of image f).params) w.stand role (length segment) b
    met_by mv h = h ∙ (ap (λ (i : ℕ). meet_by i w.stand role (size - head) b) (sym limit_is) ∙ ap (λ (i : ℕ). meet_by (limit_of (file_of image f).params) w.stand role i b) (sym segment_long))

    pub turned_takes : (s : Mode) (n first : ℕ) (pl : Place) → Deliver n first ≡ meet_by (limit_by f) w.stand role (size - head) b
        → pl ≡ record { block = b; offset = o + size; mark = false } → Turned image f s w (Done (Ok (Took n first pl)))
    turned_takes s n first pl h q =
        let len = deliver_says (limit_by f) w.stand role (size - head) b n first h in
        let more : size - head ≡ n - length_of w.stand = omega (arith, len) in
        subst (λ (y : Place). Turned image f s w (Done (Ok (Took n first y)))) (sym q) (
          λ body l.
              turn_takes (mode_of s) (file_of image f).params (file_of image f).blocks b o content tail (held_is part.0) role size body segment w.stand (look_is ∙ said.0) l n first (met_by _ h)
              ∙ ap (λ (xs : List ℕ). took (record { body = body ++ xs; first_block = first; last_block = b }) (record { block = b; offset = o + size; mark = false }))
              (segment_is ∙ ap (λ (i : ℕ). take i (body_ahead image f w)) more),
          (omega (arith, len), omega (arith, len, ahead_long), omega (arith, len, small)),
        )

    pub turned_breach : (s : Mode) (x : Result Measured Refusal) → Breach ≡ meet_by (limit_by f) w.stand role (size - head) b → x ≡ Err (refuse21 b o) → Turned image f s w (Done x)
    turned_breach s x h q =
        subst (λ (y : Result Measured Refusal). Turned image f s w (Done y)) (sym q) (
          λ body l.
              turn_breach (mode_of s) (file_of image f).params (file_of image f).blocks b o content tail (held_is part.0) role size body segment w.stand (look_is ∙ said.0) l (met_by _ h),
          tt,
        )

    module _ (t : Stand) (h : Carry t ≡ meet_by (limit_by f) w.stand role (size - head) b) where
      reached : Reached image f w (length_of t)
      reached =
          let len = carry_length (limit_by f) w.stand role (size - head) b t h in
          (len.0, omega (arith, len.1, ahead_long), omega (arith, len.1, small))

      grows : (body : List ℕ) → state_with (body ++ segment) t ≡ state_with (grown image f w body (length_of t)) t
      grows body =
          ap (λ (xs : List ℕ). state_with (body ++ xs) t) segment_is
          ∙ carry_state (limit_by f) w.stand role (size - head) b t body (body_ahead image f w) h

      goes : (s : Mode) (v : Walk) (i j : ℕ) → v.place.block ≡ i → v.place.offset ≡ j → v.stand ≡ t → (body : List ℕ)
          → met_at s i j (state_with (body ++ segment) t) ≡ met_from image f s v (grown image f w body (length_of v.stand))
      goes s v i j p q r body =
          ap (met_at s i j) (grows body)
          ∙ (met_at_lem s v i j t (grown image f w body (length_of t)) p q r
          ∙ ap (λ (z : Stand). met_from image f s v (grown image f w body (length_of z))) (sym r))

      pub carry_low : length_of t ≤ (b + 1) * 65536
      carry_low =
          let len = carry_length (limit_by f) w.stand role (size - head) b t h in
          omega (arith, len.1, inside, size_most f b, k.B-low, e.1.3)

      pub turned_on : (s : Mode) (v : Walk) → completes_by role ≡ true → v.place.block ≡ b → v.place.offset ≡ o + size → v.at ≡ w.at → v.stand ≡ t
          → Turned image f s w (On v)
      turned_on s v x p q a r =
          let len = carry_length (limit_by f) w.stand role (size - head) b t h in (
            λ body l.
                turn_on (mode_of s) (file_of image f).params (file_of image f).blocks b o content tail (held_is part.0) role size body segment w.stand (look_is ∙ said.0) l t (met_by _ h) x
                ∙ goes s v b (o + size) p q r body,
            rw r reached,
            rw (p, q, a, r) (e.1.0, e.1.1, omega (arith, inside, size_most f b, k.B-low), omega (arith, len.1, e.1.3)),
            rw (p, q) (omega (arith, inside, size_most f b, k.B-low, said.2, e.2)),
          )

      pub turned_next : (s : Mode) (v : Walk) → completes_by role ≡ false → is_fill (rest_at image f w (o + size)) ≡ true → Walking image f v → v.place.block ≡ b + 1
          → v.place.offset ≡ 0 → v.stand ≡ t → Turned image f s w (On v)
      turned_next s v d fill y p q r =
          let z : b + 1 ≡ suc b = omega arith in (
            λ body l.
                turn_next (mode_of s) (file_of image f).params (file_of image f).blocks b o content tail (held_is part.0) role size body segment w.stand (look_is ∙ said.0) l t (met_by _ h) d (ap is_fill (rest_of (o + size)) ∙ fill)
                ∙ goes s v (suc b) 0 (p ∙ z) q r body,
            rw r reached,
            y,
            further v p q,
          )

      pub turned_stops : (s : Mode) (x : Result Measured Refusal) → completes_by role ≡ false → is_fill (rest_at image f w (o + size)) ≡ false → x ≡ Err (refuse21 b (o + size))
          → Turned image f s w (Done x)
      turned_stops s x d fill q =
          subst (λ (y : Result Measured Refusal). Turned image f s w (Done y)) (sym q) (
            λ body l.
                turn_stops (mode_of s) (file_of image f).params (file_of image f).blocks b o content tail (held_is part.0) role size body segment w.stand (look_is ∙ said.0) l t (met_by _ h) d (ap is_fill (rest_of (o + size)) ∙ fill),
            tt,
          )
