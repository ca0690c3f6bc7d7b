-- Measuring and delivering, turn by turn: what a walk meets is what was met from its start.
-- Assumes nothing.
use Rattle.std.specs.Prelude.{Result, Ok, Err}
use Prim.Native.Nat.{ℕ, ◌+◌, ◌-◌, ◌<◌, ◌≤◌}
use mathlib.Core.Path.{◌≡◌, refl, sym, ap, subst, ◌∙◌}
use mathlib.Core.Bool.{Bool, true, false}
use mathlib.Core.List.{List, [], ◌++◌}
use lib.ListN.{length, take, drop, replicate, length-replicate, length-append, length-take, drop_of_length-le, take-append-drop}
use lib.Seq.{paste, length-paste, take-paste, drop-paste, drop-drop}
use native.Mathlib.Omega.{arith}
use Rattle.standard.specs.Pieces.{ahead}
use Rattle.standard.specs.Files.{any_failed}
use Rattle.standard.specs.Records.{State, fresh, marked, within, Met, took, gapped, ended, refused, at_end}
use Rattle.standard.specs.Reading.{laid_over}
use Rattle.standard.specs.declared.Place.{Place}
use Rattle.promises.proofs.Salvage.SalvageImage.{file_count}
use Rattle.opening.specs.Opened.{label_in, file_of, Opened}
use Rattle.opening.specs.declared.FileNumbers.{FileNumbers}
use Rattle.opening.proofs.OpenedLaws.{facts}
use Rattle.labels.specs.declared.Form.{Form}
use Rattle.labels.specs.declared.Form.TheVariants.{Fixed, Variable, Spanned}
use Rattle.extents.specs.Cursors.{standing}
use Rattle.blocks.specs.Streams.{stream}
use Rattle.pieces.specs.Looks.{head_of}
use Rattle.walks.specs.Stands.{length_of, state_with, met_with, measured, length_in, ended_by, lost_by}
use Rattle.walks.specs.Walks.{mode_of, met_from, Walking, Entered, NotLost, body_ahead, Reached, grown, to_go, ReachedBy, Turned}
use Rattle.walks.specs.declared.Stand.{Stand}
use Rattle.walks.specs.declared.Stand.TheVariants.{Fresh, Marked, Within}
use Rattle.walks.specs.declared.Mode.{Mode}
use Rattle.walks.specs.declared.Mode.TheVariants.{Plain, Salvage}
use Rattle.walks.specs.declared.Measured.{Measured}
use Rattle.walks.specs.declared.Measured.TheVariants.{Took, Lost, Ended}
use Rattle.walks.specs.declared.Walk.{Walk}
use Rattle.walks.specs.declared.Turn.{Turn}
use Rattle.walks.specs.declared.Turn.TheVariants.{Done, On}
use Rattle.walks.proofs.TurnLaws.{turn_end}
use Rattle.walks.proofs.WalkLaws.{stream_from, turned_lost}
use Rattle.reading.specs.Answers.{Measures, Room, body_in}
use Rattle.standard.specs.declared.Refusal.{Refusal}
use Rattle.reading.proofs.AnswerLaws.{alike, grows}

-- the bytes behind a control word, as the code comes to them
pub head_low : (form : Form) → head_of form ≤ 5
head_low Fixed = omega arith
head_low Variable = omega arith
head_low Spanned = omega arith

pub ahead_by : (image : List ℕ) (f : FileNumbers) (w : Walk) (k h : ℕ) (s : List ℕ) → h ≡ head_of f.form → k ≡ w.place.offset + h
    → s ≡ drop k (stream f.g image w.at 0) → s ≡ body_ahead image f w
ahead_by image f w k h s p q r =
    r ∙ (sym (stream_from f.g image w.at k) ∙ ap (stream f.g image w.at) (q ∙ ap (λ (i : ℕ). w.place.offset + i) p))

-- what is measured of a record with a body of its length
pub measured_with : (x : Result Measured Refusal) (body : List ℕ) → ((n f : ℕ) (pl : Place) → x ≡ Ok (Took n f pl) → length body ≡ n) → measured (met_with body x) ≡ x
measured_with (Ok (Took n f pl)) body h = ap (λ (k : ℕ). Ok (Took k f pl)) (h n f pl refl)
measured_with (Ok (Lost pl)) body h = refl
measured_with (Ok Ended) body h = refl
measured_with (Err r) body h = refl

pub end_measured : (s : Stand) (body : List ℕ) → measured (at_end (state_with body s)) ≡ ended_by s
end_measured Fresh body = refl
end_measured Marked body = refl
end_measured (Within n f) body = refl

no_room : (n : ℕ) (st : State) → Room n (at_end st) → ⊥
no_room n fresh h = h
no_room n marked h = h
no_room n (within body f) h = h

module _ (image : List ℕ) (f : FileNumbers) (s : Mode) where
  -- behind the last block
  pub met_end : Opened image f → (w : Walk) (body : List ℕ) → f.count ≤ w.place.block → met_from image f s w body ≡ at_end (state_with body w.stand)
  met_end o w body l =
      let k = facts image f o in
      let none : length (file_of image f).blocks ≤ w.place.block = omega (arith, file_count f.g image (label_in image f), k.count_is, l) in
      turn_end (mode_of s) (file_of image f).params (file_of image f).blocks w.place.block w.place.offset (state_with body w.stand)
      (drop_of_length-le (file_of image f).blocks none)

  met_alike : (w : Walk) (a b : List ℕ) → length a ≡ length b → measured (met_from image f s w a) ≡ measured (met_from image f s w b)
  met_alike w a b e =
      alike (mode_of s) (file_of image f).params (ahead (file_of image f).params (file_of image f).blocks w.place.block w.place.offset) w.stand a b e

  grown_long : (w : Walk) (body : List ℕ) (n : ℕ) → length body ≡ length_of w.stand → Reached image f w n → length (grown image f w body n) ≡ n
  grown_long w body n e r =
      let k = n - length_of w.stand in
      omega (arith, length-append body (take k (body_ahead image f w)), length-take k (body_ahead image f w), e, r.0, r.1)

  abbrev blanks : Walk → List ℕ
  blanks w = replicate (length_of w.stand) 0

  -- MEASURING: from here as from the start
  abbrev pub Same : Walk → Walk → Type 0
  Same w v = (a b : List ℕ) → length a ≡ length_of w.stand → length b ≡ length_of v.stand → measured (met_from image f s w a) ≡ measured (met_from image f s v b)

  pub same_start : (w : Walk) → Same w w
  same_start w a b p q = met_alike w a b (p ∙ sym q)

  pub same_on : (w from v : Walk) (t : Turn) → Turned image f s w t → t ≡ On v → Same w from → Same v from
  same_on w from v t h e same a b p q =
      let r = subst (Turned image f s w) e h in
      let z = length-replicate {A = ℕ} (length_of w.stand) 0 in
      met_alike v a (grown image f w (blanks w) (length_of v.stand)) (p ∙ sym (grown_long w (blanks w) (length_of v.stand) z r.1))
      ∙ (ap measured (sym (r.0 (blanks w) z)) ∙ same (blanks w) b z q)

  took_long : (w : Walk) (body : List ℕ) (x : Result Measured Refusal) → length body ≡ length_of w.stand → ReachedBy image f w x → (n g : ℕ) (pl : Place) → x ≡ Ok (Took n g pl)
      → length (grown image f w body (length_in x)) ≡ n
  took_long w body x p r n g pl e =
      let h : Reached image f w n = rw e at r in
      ap (λ (y : Result Measured Refusal). length (grown image f w body (length_in y))) e ∙ grown_long w body n p h

  pub done_measured : (w : Walk) (x : Result Measured Refusal) (body : List ℕ) → length body ≡ length_of w.stand → ReachedBy image f w x
      → measured (met_with (grown image f w body (length_in x)) x) ≡ x
  done_measured w x body p r = measured_with x (grown image f w body (length_in x)) (took_long w body x p r)

  pub measures_done : (w from : Walk) (x : Result Measured Refusal) (t : Turn) → Turned image f s w t → t ≡ Done x → Same w from → Measures image f s from x
  measures_done w from x t h e same b q =
      let r = subst (Turned image f s w) e h in
      let z = length-replicate {A = ℕ} (length_of w.stand) 0 in
      sym (done_measured w x (blanks w) z r.1) ∙ (ap measured (sym (r.0 (blanks w) z)) ∙ same (blanks w) b z q)

  pub measures_end : Opened image f → (w from : Walk) → f.count ≤ w.place.block → Same w from → Measures image f s from (ended_by w.stand)
  measures_end o w from l same b q =
      let z = length-replicate {A = ℕ} (length_of w.stand) 0 in
      sym (end_measured w.stand (blanks w)) ∙ (ap measured (sym (met_end o w (blanks w) l)) ∙ same (blanks w) b z q)

  -- the way on
  pub turned_less : (w v : Walk) (t : Turn) → Turned image f s w t → t ≡ On v → (Walking image f v) × (to_go f v < to_go f w)
  turned_less w v t h e = let r = subst (Turned image f s w) e h in (r.2, r.3)

  pub done_says : (w : Walk) (x : Result Measured Refusal) (t : Turn) → Turned image f s w t → t ≡ Done x → length_of w.stand ≡ 0
      → (met_from image f s w [] ≡ met_with (grown image f w [] (length_in x)) x) × (ReachedBy image f w x)
  done_says w x t h e z = let r = subst (Turned image f s w) e h in (r.0 [] (sym z), r.1)

  -- a turn by which nothing of a record has come
  pub on_same : (w v : Walk) (t : Turn) → Turned image f s w t → t ≡ On v → length_of w.stand ≡ 0 → length_of v.stand ≡ 0
      → met_from image f s w [] ≡ met_from image f s v []
  on_same w v t h e z y =
      let r = subst (Turned image f s w) e h in
      let none : length_of v.stand - length_of w.stand ≡ 0 = omega (arith, z, y) in
      r.0 [] (sym z) ∙ ap (λ (n : ℕ). met_from image f s v (take n (body_ahead image f w))) none

  -- one turn, and then what was measured further on
  pub measures_on : (w v : Walk) (x : Result Measured Refusal) (t : Turn) → Turned image f s w t → t ≡ On v → Measures image f s v x → length_of w.stand ≡ 0
      → x ≡ measured (met_from image f s w [])
  measures_on w v x t h e m z =
      let r = subst (Turned image f s w) e h in
      m (grown image f w [] (length_of v.stand)) (grown_long w [] (length_of v.stand) (sym z) r.1) ∙ ap measured (sym (r.0 [] (sym z)))

  -- DELIVERING: the output begins with what there is of the body, and is behind it as it was
  module _ (from : Walk) (before : List ℕ) where
    pub record Delivering (w : Walk) (out : List ℕ) : Type 0 where
      pub walking : Walking image f w
      pub long : length out ≡ length before
      pub there : length_of w.stand ≤ length out
      pub same : met_from image f s w (take (length_of w.stand) out) ≡ met_from image f s from []
      pub stays : drop (length_of w.stand) out ≡ drop (length_of w.stand) before

    front_long : (w : Walk) (out : List ℕ) → Delivering w out → length (take (length_of w.stand) out) ≡ length_of w.stand
    front_long w out d = omega (arith, length-take (length_of w.stand) out, d.there)

    -- the output when more of the body has come
    more_front : (w : Walk) (out : List ℕ) (n : ℕ) → Delivering w out → Reached image f w n
        → take n (paste out (length_of w.stand) (body_ahead image f w) (n - length_of w.stand)) ≡ grown image f w (take (length_of w.stand) out) n
    more_front w out n d r =
        let l = length_of w.stand in
        let z : n ≡ l + (n - l) = omega (arith, r.0) in
        ap (λ (i : ℕ). take i (paste out l (body_ahead image f w) (n - l))) z ∙ take-paste out l (body_ahead image f w) (n - l) d.there (omega (arith, r.0, r.1))

    more_behind : (w : Walk) (out : List ℕ) (n : ℕ) → Delivering w out → Reached image f w n
        → drop n (paste out (length_of w.stand) (body_ahead image f w) (n - length_of w.stand)) ≡ drop n before
    more_behind w out n d r =
        let l = length_of w.stand in
        let z : n ≡ l + (n - l) = omega (arith, r.0) in
        let y : l + (n - l) ≡ n = omega (arith, r.0) in
        ap (λ (i : ℕ). drop i (paste out l (body_ahead image f w) (n - l))) z
        ∙ (drop-paste out l (body_ahead image f w) (n - l) d.there (omega (arith, r.0, r.1))
        ∙ (sym (drop-drop (n - l) l out) ∙ (ap (drop (n - l)) d.stays ∙ (drop-drop (n - l) l before ∙ ap (λ (i : ℕ). drop i before) y))))

    pub delivering_start : length_of from.stand ≡ 0 → Walking image f from → Delivering from before
    delivering_start z w =
        record {
          walking = w;
          long = refl;
          there = omega (arith, z);
          same = ap (λ (n : ℕ). met_from image f s from (take n before)) z;
          stays = refl;
        }

    -- there is room for what comes, because there is room for the whole record
    room_long : (met : Met) (n : ℕ) → Room n met → (k : ℕ) × (g : ℕ) × (pl : Place) × (measured met ≡ Ok (Took k g pl)) × (k ≤ n)
    room_long (took r pl) n h = (length r.body, r.first_block, pl, refl, h)
    room_long (gapped b pl) n h = absurd h
    room_long ended n h = absurd h
    room_long (refused r) n h = absurd h

    pub on_room : (w v : Walk) (out : List ℕ) (t : Turn) → Turned image f s w t → t ≡ On v → Delivering w out → Room (length before) (met_from image f s from [])
        → (Reached image f w (length_of v.stand)) × (length_of v.stand ≤ length out)
    on_room w v out t h e d room =
        let r = subst (Turned image f s w) e h in
        let body = grown image f w (take (length_of w.stand) out) (length_of v.stand) in
        let (k, g, pl, m, l) = room_long (met_from image f s from []) (length before) room in
        let met : met_from image f s v body ≡ met_from image f s from [] = sym (r.0 (take (length_of w.stand) out) (front_long w out d)) ∙ d.same in
        let longer =
        grows (mode_of s) (file_of image f).params (ahead (file_of image f).params (file_of image f).blocks v.place.block v.place.offset) v.stand body k g pl
        (grown_long w (take (length_of w.stand) out) (length_of v.stand) (front_long w out d) r.1) (ap measured met ∙ m) in
        (r.1, omega (arith, longer, l, d.long))

    pub delivering_on : (w v : Walk) (out after : List ℕ) (t : Turn) → Turned image f s w t → t ≡ On v → Delivering w out → length_of v.stand ≤ length out
        → after ≡ paste out (length_of w.stand) (body_ahead image f w) (length_of v.stand - length_of w.stand) → Delivering v after
    delivering_on w v out after t h e d l q =
        let r = subst (Turned image f s w) e h in
        let n = length_of v.stand in
        let a = length_of w.stand in
        let long : length after ≡ length out = ap length q ∙ length-paste out a (body_ahead image f w) (n - a) (omega (arith, r.1.0, l)) (omega (arith, r.1.0, r.1.1)) in
        record {
          walking = r.2;
          long = long ∙ d.long;
          there = omega (arith, long, l);
          same =
              ap (λ (xs : List ℕ). met_from image f s v (take n xs)) q
              ∙ (ap (met_from image f s v) (more_front w out n d r.1) ∙ (sym (r.0 (take a out) (front_long w out d)) ∙ d.same));
          stays = ap (drop n) q ∙ more_behind w out n d r.1;
        }

    done_cases : (w : Walk) (out : List ℕ) (x : Result Measured Refusal) → Delivering w out → ReachedBy image f w x
        → Room (length before) (met_with (grown image f w (take (length_of w.stand) out) (length_in x)) x)
        → (Reached image f w (length_in x)) × (length_in x ≤ length out)
    done_cases w out (Ok (Took n g pl)) d r h = (r, omega (arith, grown_long w (take (length_of w.stand) out) n (front_long w out d) r, h, d.long))
    done_cases w out (Ok (Lost pl)) d r h = absurd h
    done_cases w out (Ok Ended) d r h = absurd h
    done_cases w out (Err q) d r h = absurd h

    pub done_room : (w : Walk) (out : List ℕ) (x : Result Measured Refusal) (t : Turn) → Turned image f s w t → t ≡ Done x → Delivering w out
        → Room (length before) (met_from image f s from []) → (Reached image f w (length_in x)) × (length_in x ≤ length out)
    done_room w out x t h e d room =
        let r = subst (Turned image f s w) e h in
        done_cases w out x d r.1 (subst (Room (length before)) (sym d.same ∙ r.0 (take (length_of w.stand) out) (front_long w out d)) room)

    body_with : (x : Result Measured Refusal) (body : List ℕ) (n : ℕ) → Room n (met_with body x) → body_in (met_with body x) ≡ body
    body_with (Ok (Took k g pl)) body n h = refl
    body_with (Ok (Lost pl)) body n h = absurd h
    body_with (Ok Ended) body n h = absurd h
    body_with (Err r) body n h = absurd h

    pub delivered_done : (w : Walk) (out after : List ℕ) (x : Result Measured Refusal) (t : Turn) → Turned image f s w t → t ≡ Done x → Delivering w out
        → Room (length before) (met_from image f s from []) → after ≡ paste out (length_of w.stand) (body_ahead image f w) (length_in x - length_of w.stand)
        → after ≡ laid_over (body_in (met_from image f s from [])) before
    unfolding laid_over
    delivered_done w out after x t h e d room q =
        let r = subst (Turned image f s w) e h in
        let front = take (length_of w.stand) out in
        let n = length_in x in
        let body = grown image f w front n in
        let met = sym d.same ∙ r.0 front (front_long w out d) in
        let reach = (done_cases w out x d r.1 (subst (Room (length before)) met room)).0 in
        let is : body_in (met_from image f s from []) ≡ body = ap body_in met ∙ body_with x body (length before) (subst (Room (length before)) met room) in
        let size : length body ≡ n = grown_long w front n (front_long w out d) reach in
        let a = length_of w.stand in
        q
        ∙ (sym (take-append-drop n (paste out a (body_ahead image f w) (n - a)))
        ∙ (ap (λ (xs : List ℕ). xs ++ drop n (paste out a (body_ahead image f w) (n - a))) (more_front w out n d reach)
        ∙ (ap (λ (xs : List ℕ). body ++ xs) (more_behind w out n d reach ∙ ap (λ (i : ℕ). drop i before) (sym size))
        ∙ ap (λ (xs : List ℕ). xs ++ drop (length xs) before) (sym is))))

    -- a reader that is at a lost block meets no record
    no_lost : (t : Mode) (b : ℕ) (n : ℕ) (body : List ℕ) → Room n (met_with body (lost_by t b)) → ⊥
    no_lost Salvage b n body h = h
    no_lost Plain b n body h = h

    pub never_lost : (w : Walk) (out : List ℕ) → Entered image f w → Delivering w out → Room (length before) (met_from image f s from []) → NotLost image f w
    never_lost w out p d room = go (any_failed f.g image (take f.m (standing f.g image w.at))) refl
      where
        front : List ℕ
        front = take (length_of w.stand) out

        go : (z : Bool) → any_failed f.g image (take f.m (standing f.g image w.at)) ≡ z → NotLost image f w
        go false e = e
        go true e =
            let b = w.place.block in
            let t = turned_lost image f w p s (lost_by s b) e refl in
            absurd (no_lost s b (length before) (grown image f w front (length_in (lost_by s b))) (subst (Room (length before)) (sym d.same ∙ t.0 front (front_long w out d)) room))

    pub never_ends : Opened image f → (w : Walk) (out : List ℕ) → f.count ≤ w.place.block → Delivering w out → Room (length before) (met_from image f s from []) → ⊥
    never_ends o w out l d room =
        no_room (length before) (state_with (take (length_of w.stand) out) w.stand)
        (subst (Room (length before)) (sym d.same ∙ met_end o w (take (length_of w.stand) out) l) room)
