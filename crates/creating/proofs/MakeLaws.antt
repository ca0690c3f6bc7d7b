-- Request 2026-01, creating: the exits of the list of refusals, what an accepted plan gives to the code that carries it out, and the call.
-- Assumes nothing.
use Rattle.std.specs.Prelude.{Result, Ok, Err, Some, None, ⊤}
use Prim.Native.Nat.{ℕ, ◌+◌, ◌-◌, ◌<◌, ◌≤◌}
use mathlib.Core.Path.{◌≡◌, refl, sym, ap, subst, ◌∙◌}
use mathlib.Core.List.{List}
use lib.ListN.{length}
use native.Mathlib.Omega.{arith}
use borrow.Author.Tests.{lt-ltb, ne_eqb}
use Rattle.standard.specs.Refusals.{refuse, refuse_at, given_when, in_order, or_else}
use Rattle.standard.specs.Addresses.{address_of, address_count, legal}
use Rattle.standard.specs.Judgement.{judged}
use Rattle.standard.specs.Creating.{name_in, proposed, proposal_fault, run_start, lowest_deleted, lowest_run, store_slot, create_refusal, created_start, image_created, creation, created, image_after_create, Creation, file_made}
use Rattle.standard.specs.declared.Geometry.{Geometry}
use Rattle.standard.specs.declared.Address.{Address}
use Rattle.standard.specs.declared.Refusal.{Refusal}
use Rattle.standard.specs.declared.Created.{Created}
use Rattle.promises.specs.Ground.Basics.{never}
use Rattle.promises.specs.Images.AddressLaws.{parts, legal_of}
use Rattle.promises.specs.Volumes.VolumeNumbers.{Numbers, numbers_of_lem}
use Rattle.promises.specs.Making.Drafts.{proposal_right, proposed_fields}
use Rattle.promises.proofs.Making.Creations.{Creatable, creatable, creation_is}
use Rattle.layout.specs.Room.{Room}
use Rattle.volume.proofs.NumberLaws.{slotted_of}
use Rattle.finding.specs.Slot.{slot_named}
use Rattle.finding.proofs.FindLaws.{room, found_none, found_some}
use Rattle.creating.specs.declared.Plan.{Plan}
use Rattle.creating.specs.Plans.{plan_or, room_in, plan_in, Accepted}

-- 28, 29, OR THE ROOM
module _ (g : Geometry) (image : List ℕ) (n : ℕ) where
  pub room_28 : lowest_deleted g image ≡ 0 → Err (refuse 28 0) ≡ room_in g image n
  unfolding room_in given_when in_order or_else
  room_28 z = rw z

  pub room_29 : (slot : ℕ) → slot ≡ lowest_deleted g image → (slot ≡ 0 → ⊥) → lowest_run g image n ≡ None → Err (refuse 29 0) ≡ room_in g image n
  unfolding room_in given_when in_order or_else
  room_29 slot e s r = rw (ne_eqb (lowest_deleted g image) 0 (λ (z : lowest_deleted g image ≡ 0). s (e ∙ z)), r)

  pub room_go : (slot i : ℕ) → slot ≡ lowest_deleted g image → (slot ≡ 0 → ⊥) → lowest_run g image n ≡ Some i → Ok (record { slot = slot; first = i }) ≡ room_in g image n
  unfolding room_in given_when in_order or_else
  room_go slot i e s r =
      rw (ne_eqb (lowest_deleted g image) 0 (λ (z : lowest_deleted g image ≡ 0). s (e ∙ z)), r) (ap (λ (x : ℕ). Ok (record { slot = x; first = i })) e ∙ ap (λ (x : ℕ). Ok (record { slot = lowest_deleted g image; first = x })) (sym (ap run_start r)))

-- 10 AND 12 BEFORE IT
module _ (g : Geometry) (image w : List ℕ) (n : ℕ) where
  pub plan_10 : (p : ℕ) → p ≡ proposal_fault g w n → 0 < p → Err (refuse_at 10 0 p) ≡ plan_in g image w n
  unfolding plan_in create_refusal given_when in_order or_else
  plan_10 p e l = rw (sym e, lt-ltb 0 p l)

  pub plan_12 : (s : ℕ) → proposal_fault g w n ≡ 0 → s ≡ slot_named g image (name_in w) → 0 < s → Err (refuse 12 s) ≡ plan_in g image w n
  unfolding plan_in create_refusal given_when in_order or_else
  plan_12 s z e l = rw (z, found_some g image (name_in w) s e (λ (q : s ≡ 0). omega arith))

  pub plan_on : proposal_fault g w n ≡ 0 → slot_named g image (name_in w) ≡ 0 → room_in g image n ≡ plan_in g image w n
  unfolding plan_in room_in create_refusal given_when in_order or_else
  plan_on z e = rw (z, found_none g image (name_in w) e)

  -- with no fault there are 29 bytes, and n is above 0
  pub plan_29 : proposal_fault g w n ≡ 0 → length w ≡ 29
  plan_29 z = (proposal_right g w n z).bytes29

  pub plan_some : proposal_fault g w n ≡ 0 → 1 ≤ n
  plan_some z = (proposal_right g w n z).some

-- AN ACCEPTED CREATE: what the layers below ask
module _ (g : Geometry) (image w : List ℕ) (n slot i : ℕ) (a : Accepted g image w n slot i) where
  ns : Numbers g
  ns = numbers_of_lem image g a.0

  able : Creatable g image w n
  able = creatable image g w n a.0 a.1

  pub made_numbers : (0 < g.D) × (0 < g.S)
  made_numbers = (omega (arith, ns.sectors_low), omega (arith, ns.side_low))

  pub made_bytes : length w ≡ 29
  made_bytes = (proposal_right g w n able.right).bytes29

  pub made_some : 1 ≤ n
  made_some = (proposal_right g w n able.right).some

  pub made_inside : i + n ≤ address_count g
  made_inside = subst (λ (k : ℕ). k + n ≤ address_count g) (sym a.3) able.run.run.inside

  pub made_few : address_count g < 65536
  made_few = (slotted_of image g a.0).whole.addresses

  -- the numbers of an address of the run
  pub made_small : (r : ℕ) (x : Address) → r < i + n → x ≡ address_of g r → (x.cylinder < 3000) × (x.side < 256) × (x.sector < 3000)
  made_small r x l e =
      let p = parts g x (ap (legal g) e ∙ legal_of g r (omega (arith, made_inside))) in
      (omega (arith, p.cylinder_high, ns.cylinders), omega (arith, p.side_low, ns.side_high), omega (arith, p.sector_high, ns.sectors))

  pub made_room : Room g image slot
  made_room = room g image slot (slotted_of image g a.0) (omega (arith, a.2, able.slot.high))

  pub made_whole : (h : List ℕ) (start end : Address) → h ≡ proposed w start end → length h ≤ 128
  made_whole h start end e = omega (arith, ap length e, (proposed_fields w made_bytes start end).whole)

  -- THE ANSWER AND THE IMAGE, from the two addresses, the label and the store
  pub made_done : (start end : Address) (h after : List ℕ) → start ≡ address_of g i → end ≡ address_of g (i + (n - 1)) → h ≡ proposed w start end
      → after ≡ store_slot g slot 0 h image → (start ≡ created_start g image n) × (after ≡ image_created g image w n)
  unfolding image_created
  made_done start end h after es ee eh ea = (
    es ∙ ap (address_of g) a.3,
    ea ∙ ap (λ (x : ℕ). store_slot g x 0 h image) a.2
        ∙ ap (λ (l : List ℕ). store_slot g (lowest_deleted g image) 0 l image)
        (eh ∙ ap (λ (x : Address). proposed w x end) (es ∙ ap (address_of g) a.3) ∙ ap (proposed w (created_start g image n)) (ee ∙ ap (λ (k : ℕ). address_of g (k + (n - 1))) a.3)),
  )

-- THE CALL: its answer, and the image
abbrev pub Ends : List ℕ → List ℕ → ℕ → Result Created Refusal → List ℕ → Type 0
Ends image w n r after = (r ≡ created image w n) × (after ≡ image_after_create image w n)

ended_with : (image w : List ℕ) (n : ℕ) (o : Creation) → creation image w n ≡ o → Ends image w n o.answer o.image
ended_with image w n o e = (sym (ap (λ (x : Creation). x.answer) e), sym (ap (λ (x : Creation). x.image) e))

abbrev uncreated : List ℕ → Refusal → Creation
uncreated image r = record { answer = Err r; image = image }

pub make_stopped : (image w : List ℕ) (n : ℕ) (r : Refusal) → judged image ≡ Err r → Ends image w n (Err r) image
unfolding creation
make_stopped image w n r j =
    let e : creation image w n ≡ uncreated image r = rw j in
    ended_with image w n (uncreated image r) e

-- what a plan says of the refusals before it
abbrev refusal_in : Result Plan Refusal → Refusal → Refusal
refusal_in (Err r) other = r
refusal_in (Ok p) other = other

abbrev slot_in : Result Plan Refusal → ℕ
slot_in (Err r) = 0
slot_in (Ok p) = p.slot

abbrev first_in : Result Plan Refusal → ℕ
first_in (Err r) = 0
first_in (Ok p) = p.first

module _ (image : List ℕ) (g : Geometry) (w : List ℕ) (n : ℕ) (j : judged image ≡ Ok g) where
  planned_stop : (c : Result ⊤ Refusal) (r : Refusal) → plan_or c g image n ≡ Err r → c ≡ Err r
  planned_stop (Ok _) r e = never (cc)
  planned_stop (Err s) r e = ap Err (ap (λ (k : Result Plan Refusal). refusal_in k r) e)

  planned_go : (c : Result ⊤ Refusal) (slot i : ℕ) → plan_or c g image n ≡ Ok (record { slot = slot; first = i }) → (c ≡ Ok tt) × (slot ≡ lowest_deleted g image) × (i ≡ run_start (lowest_run g image n))
  planned_go (Ok _) slot i e = (refl, sym (ap slot_in e), sym (ap first_in e))
  planned_go (Err s) slot i e = never (cc)

  pub make_refused : (r : Refusal) → plan_in g image w n ≡ Err r → Ends image w n (Err r) image
  unfolding plan_in creation
  make_refused r p =
      let c = planned_stop (create_refusal g image w n) r p in
      let e : creation image w n ≡ uncreated image r = rw (j, c) in
      ended_with image w n (uncreated image r) e

  pub make_accepted : (slot i : ℕ) → plan_in g image w n ≡ Ok (record { slot = slot; first = i }) → Accepted g image w n slot i
  unfolding plan_in
  make_accepted slot i p =
      let k = planned_go (create_refusal g image w n) slot i p in
      (j, k.0, k.1, k.2)

  pub make_done : (slot i : ℕ) (start : Address) (after : List ℕ) → Accepted g image w n slot i → start ≡ created_start g image n → after ≡ image_created g image w n
      → Ends image w n (file_made slot start) after
  make_done slot i start after a es ea =
      let e = ended_with image w n _ (creation_is image g w n j a.1) in
      (ap (λ (x : ℕ). file_made x start) a.2 ∙ ap (file_made (lowest_deleted g image)) es ∙ e.0, ea ∙ e.1)
