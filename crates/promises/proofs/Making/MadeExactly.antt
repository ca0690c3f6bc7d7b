-- Request 2026-01: when a create and a delete are done, and when they are refused, exactly.
-- Assumes nothing.
use Rattle.std.specs.Prelude.{ℕ, ◌+◌, ◌<◌, ◌≤◌, ◌≡◌, true, List, [], ◌∷◌, Result, Option, Ok, Err, Some, None, ⊤}
use Rattle.std.proofs.Math.Path.{refl, ap}
use Rattle.std.proofs.Common.{sym, subst, ◌∙◌, arith, ne_eqb}
use Rattle.standard.specs.Refusals.{refuse, given_when, in_order}
use Rattle.standard.specs.Layout.{slot_count, label_at}
use Rattle.standard.specs.Addresses.{rank, address_of, address_count, legal}
use Rattle.standard.specs.Labels.{known_level, name_of}
use Rattle.standard.specs.Slots.{is_label, is_deleted}
use Rattle.standard.specs.Judgement.{judged, on_volume}
use Rattle.standard.specs.Files.{extent_size}
use Rattle.standard.specs.Finding.{found_from, found}
use Rattle.standard.specs.Creating.{name_in, proposal_fault, refusal10for, refusal12for, refusal28, refusal29, name_used, run_start, no_room, lowest_run, lowest_deleted, create_list, create_refusal, created_start, create_unless, creation, created, image_after_create, image_created, Creation, delete_list, delete_refusal, delete_unless, deletion, deleted, image_after_delete, image_without, Deletion, file_made}
use Rattle.standard.specs.declared.Geometry.{Geometry}
use Rattle.standard.specs.declared.Address.{Address}
use Rattle.standard.specs.declared.Created.{Created}
use Rattle.standard.specs.declared.Refusal.{Refusal}
use Rattle.promises.specs.Ground.Basics.{either, lt_or_le, true_not_false, never}
use Rattle.promises.specs.Images.AddressLaws.{legal_of, of_rank}
use Rattle.promises.specs.Refusals.Refusing.{Exactly, First, order_first, first_order}
use Rattle.promises.specs.Volumes.FindingLaws.{find_none}
use Rattle.promises.specs.Making.RunsFree.{Lowest, lowest_run_exactly, Blocked, blocked_exactly, LowestDeleted, lowest_deleted_exactly, none_deleted}
use Rattle.promises.specs.Making.Drafts.{proposal_right}
use Rattle.promises.proofs.Making.Deletions.{Deletable, deletable, delete_accepted, delete_not_found, run_again, slot_again, deletion_is}
use Rattle.promises.proofs.Making.Creations.{creatable, creation_is, start_rank}

-- the two calls by the judgement
abbrev creation_done : Geometry → List ℕ → List ℕ → ℕ → Creation
creation_done g image w n = record { answer = file_made (lowest_deleted g image) (created_start g image n); image = image_created g image w n }

abbrev creation_on : Result Geometry Refusal → List ℕ → List ℕ → ℕ → Creation
creation_on v image w n =
    on_volume v (λ r. record { answer = Err r; image = image }) (λ g. create_unless (create_refusal g image w n) image (creation_done g image w n))

abbrev deletion_done : Geometry → List ℕ → ℕ → Deletion
deletion_done g image slot = record { answer = Ok (extent_size g (label_at g image slot)); image = image_without g slot image }

abbrev deletion_on : Result Geometry Refusal → List ℕ → ℕ → Deletion
deletion_on v image slot =
    on_volume v (λ r. record { answer = Err r; image = image }) (λ g. delete_unless (delete_refusal g image slot) image (deletion_done g image slot))

-- a file made in one slot, from one start
pub file_made_same : (slot s : ℕ) (start a : Address) → file_made slot start ≡ file_made s a → (slot ≡ s) × (start ≡ a)
file_made_same slot s start a h =
    let e : ◌≡◌ {A = Created} (record { slot = slot; start = start }) (record { slot = s; start = a }) = cc in
    (ap (λ (c : Created). c.slot) e, ap (λ (c : Created). c.start) e)

-- A REFUSAL OF THE VOLUME stops both
pub volume_stops_create : (image w : List ℕ) (n : ℕ) (r : Refusal) → judged image ≡ Err r → created image w n ≡ Err r
unfolding creation
volume_stops_create image w n r j = ap (λ (v : Result Geometry Refusal). (creation_on v image w n).answer) j

pub volume_stops_delete : (image : List ℕ) (slot : ℕ) (r : Refusal) → judged image ≡ Err r → deleted image slot ≡ Err r
unfolding deletion
volume_stops_delete image slot r j = ap (λ (v : Result Geometry Refusal). (deletion_on v image slot).answer) j

-- A REFUSAL CHANGES NOTHING, on any image
create_unless_lem : (c : Result ⊤ Refusal) (image : List ℕ) (o : Creation) (s : ℕ) (a : Address) (r : Refusal) → o.answer ≡ file_made s a → (create_unless c image o).answer ≡ Err r
    → (create_unless c image o).image ≡ image
create_unless_lem (Ok _) image o s a r b h = never (cc)
create_unless_lem (Err q) image o s a r b h = refl

pub refusal_creates_nothing : (image w : List ℕ) (n : ℕ) (r : Refusal) → created image w n ≡ Err r → image_after_create image w n ≡ image
unfolding creation
refusal_creates_nothing image w n r h = on (judged image) h
  where
    on : (v : Result Geometry Refusal) → (creation_on v image w n).answer ≡ Err r → (creation_on v image w n).image ≡ image
    on (Err q) e = refl
    on (Ok g) e = create_unless_lem (create_refusal g image w n) image (creation_done g image w n) _ _ r refl e

delete_unless_lem : (c : Result ⊤ Refusal) (image : List ℕ) (o : Deletion) (n : ℕ) (r : Refusal) → o.answer ≡ Ok n → (delete_unless c image o).answer ≡ Err r
    → (delete_unless c image o).image ≡ image
delete_unless_lem (Ok _) image o n r b h = never (cc)
delete_unless_lem (Err q) image o n r b h = refl

pub refusal_deletes_nothing : (image : List ℕ) (slot : ℕ) (r : Refusal) → deleted image slot ≡ Err r → image_after_delete image slot ≡ image
unfolding deletion
refusal_deletes_nothing image slot r h = on (judged image) h
  where
    on : (v : Result Geometry Refusal) → (deletion_on v image slot).answer ≡ Err r → (deletion_on v image slot).image ≡ image
    on (Err q) e = refl
    on (Ok g) e = delete_unless_lem (delete_refusal g image slot) image (deletion_done g image slot) _ r refl e

module _ (image : List ℕ) (g : Geometry) (j : judged image ≡ Ok g) where
  -- EACH REFUSAL IS GIVEN EXACTLY WHERE IT IS THE FIRST OF ITS LIST
  create_stopped : (c : Result ⊤ Refusal) (o : Creation) (s : ℕ) (a : Address) (r : Refusal) → o.answer ≡ file_made s a → (create_unless c image o).answer ≡ Err r → c ≡ Err r
  create_stopped (Ok _) o s a r b h = never (cc)
  create_stopped (Err q) o s a r b h = cc

  create_done : (c : Result ⊤ Refusal) (o : Creation) (s : ℕ) (a : Address) → (create_unless c image o).answer ≡ file_made s a → c ≡ Ok tt
  create_done (Ok _) o s a h = refl
  create_done (Err q) o s a h = never (cc)

  pub create_refused : (w : List ℕ) (n : ℕ) (r : Refusal) → Exactly (created image w n ≡ Err r) (create_refusal g image w n ≡ Err r)
  unfolding creation
  create_refused w n r = (
    (λ h. create_stopped (create_refusal g image w n) (creation_done g image w n) _ _ r refl (subst (λ (v : Result Geometry Refusal). (creation_on v image w n).answer ≡ Err r) j h)),
    (λ e. ap (λ (v : Result Geometry Refusal). (creation_on v image w n).answer) j ∙ ap (λ (c : Result ⊤ Refusal). (create_unless c image (creation_done g image w n)).answer) e),
  )

  pub create_first : (w : List ℕ) (n : ℕ) (r : Refusal) → Exactly (created image w n ≡ Err r) (First r (create_list g image w n))
  unfolding create_refusal
  create_first w n r = (
    (λ h. order_first (create_list g image w n) r ((create_refused w n r).0 h)),
    (λ f. (create_refused w n r).1 (first_order (create_list g image w n) r f)),
  )

  pub accepted_create : (w : List ℕ) (n s : ℕ) (a : Address) → created image w n ≡ file_made s a → create_refusal g image w n ≡ Ok tt
  unfolding creation
  accepted_create w n s a h =
      create_done (create_refusal g image w n) (creation_done g image w n) s a (subst (λ (v : Result Geometry Refusal). (creation_on v image w n).answer ≡ file_made s a) j h)

  delete_stopped : (c : Result ⊤ Refusal) (o : Deletion) (n : ℕ) (r : Refusal) → o.answer ≡ Ok n → (delete_unless c image o).answer ≡ Err r → c ≡ Err r
  delete_stopped (Ok _) o n r b h = never (cc)
  delete_stopped (Err q) o n r b h = cc

  delete_done : (c : Result ⊤ Refusal) (o : Deletion) (n : ℕ) → (delete_unless c image o).answer ≡ Ok n → c ≡ Ok tt
  delete_done (Ok _) o n h = refl
  delete_done (Err q) o n h = never (cc)

  pub delete_first : (slot : ℕ) (r : Refusal) → Exactly (deleted image slot ≡ Err r) (First r (delete_list g image slot))
  unfolding deletion delete_refusal
  delete_first slot r = (
    (λ h. order_first (delete_list g image slot) r (delete_stopped (in_order (delete_list g image slot)) (deletion_done g image slot) _ r refl
        (subst (λ (v : Result Geometry Refusal). (deletion_on v image slot).answer ≡ Err r) j h))),
    (λ f. ap (λ (v : Result Geometry Refusal). (deletion_on v image slot).answer) j ∙ ap (λ (c : Result ⊤ Refusal). (delete_unless c image (deletion_done g image slot)).answer) (first_order (delete_list g image slot) r f)),
  )

  pub accepted_delete : (slot n : ℕ) → deleted image slot ≡ Ok n → delete_refusal g image slot ≡ Ok tt
  unfolding deletion
  accepted_delete slot n h =
      delete_done (delete_refusal g image slot) (deletion_done g image slot) n (subst (λ (v : Result Geometry Refusal). (deletion_on v image slot).answer ≡ Ok n) j h)

  -- DELETES EXACTLY: a label of a known level in a slot of the volume, not protected; the answer is the size of its extent
  delete_passes : (slot : ℕ) → Deletable g image slot → delete_refusal g image slot ≡ Ok tt
  unfolding delete_refusal in_order given_when
  delete_passes slot d = rw (d.labelled, d.known, d.unprotected)

  pub deletes_exactly : (slot n : ℕ) → Exactly (deleted image slot ≡ Ok n) (Deletable g image slot × (n ≡ extent_size g (label_at g image slot)))
  deletes_exactly slot n = (
    (λ h.
        let p = accepted_delete slot n h in
        let e = ap (λ (o : Deletion). o.answer) (deletion_is image g slot j p) in
        (deletable g image slot p, cc)),
    (λ f.
        let e = ap (λ (o : Deletion). o.answer) (deletion_is image g slot j (delete_passes slot f.0)) in
        let q = f.1 in
        cc),
  )

  -- the parts of the list of creating
  abbrev pub Unnamed : List ℕ → Type 0
  Unnamed w = (slot : ℕ) → 1 ≤ slot → slot ≤ slot_count g → is_label g image slot ≡ true → known_level (label_at g image slot) ≡ true
      → name_of (label_at g image slot) ≡ name_in w → ⊥

  unnamed_passes : (w : List ℕ) → Unnamed w → refusal12for g image w ≡ Ok tt
  unfolding found
  unnamed_passes w u =
      let e : found_from g image (name_in w) (slot_count g) 1 ≡ Err (refuse 13 0) = rw j at ((find_none image g j (name_in w) (refuse 13 0)).1 (refl, u)) in
      ap name_used e

  deleted_passes : 1 ≤ lowest_deleted g image → refusal28 g image ≡ Ok tt
  unfolding given_when
  deleted_passes l = rw (ne_eqb (lowest_deleted g image) 0 (λ (q : lowest_deleted g image ≡ 0). omega arith))

  right_passes : (w : List ℕ) (n : ℕ) → proposal_fault g w n ≡ 0 → refusal10for g w n ≡ Ok tt
  unfolding given_when
  right_passes w n z = rw z

  -- with a right label, a name not in use and a deleted slot, what is left is 29
  only_room : (w : List ℕ) (n : ℕ) → proposal_fault g w n ≡ 0 → Unnamed w → 1 ≤ lowest_deleted g image → create_refusal g image w n ≡ refusal29 g image n
  unfolding create_refusal in_order
  only_room w n z u l = rw (right_passes w n z, unnamed_passes w u, deleted_passes l) (last (refusal29 g image n))
    where
      last : (c : Result ⊤ Refusal) → in_order (c ∷ []) ≡ c
      last (Ok _) = refl
      last (Err r) = refl

  room_none : (r : Option ℕ) → no_room r ≡ Err (refuse 29 0) → r ≡ None
  room_none None h = refl
  room_none (Some i) h = never (cc)

  -- "WITH A DELETED SLOT AT HAND, CREATION IS REFUSED FOR LACK OF ROOM EXACTLY IF NO RUN OF n FREE ADDRESSES EXISTS": of every n addresses in a row, one is in
  -- the extent of a label
  pub refused_for_room_exactly : (w : List ℕ) (n slot : ℕ) → proposal_fault g w n ≡ 0 → Unnamed w
      → 1 ≤ slot → slot ≤ slot_count g → is_deleted g image slot ≡ true
      → Exactly (created image w n ≡ Err (refuse 29 0)) ((i : ℕ) → i + n ≤ address_count g → Blocked g image n i)
  refused_for_room_exactly w n slot z u l m d =
      let some = deleted_there slot l m d in
      let e = only_room w n z u some in (
        (λ h. (blocked_exactly g image n).0 (room_none (lowest_run g image n) (sym e ∙ (create_refused w n (refuse 29 0)).0 h))),
        (λ b. (create_refused w n (refuse 29 0)).1 (e ∙ ap no_room ((blocked_exactly g image n).1 b))),
      )
    where
      deleted_there : (slot : ℕ) → 1 ≤ slot → slot ≤ slot_count g → is_deleted g image slot ≡ true → 1 ≤ lowest_deleted g image
      deleted_there slot l m d =
          either (lt_or_le 0 (lowest_deleted g image))
          (λ (p : 0 < lowest_deleted g image). p)
          (λ (p : lowest_deleted g image ≤ 0). absurd (true_not_false _ d (none_deleted g image (omega arith) slot l m)))

  -- CREATES EXACTLY: the label is right, its name is in no use, the slot is the lowest deleted one, and the start is that of the lowest free run
  pub record Creates (w : List ℕ) (n slot : ℕ) (start : Address) : Type 0 where
    pub right : proposal_fault g w n ≡ 0
    pub unnamed : Unnamed w
    pub slot_is : LowestDeleted g image slot
    pub start_legal : legal g start ≡ true
    pub run : Lowest g image n (rank g start)

  creates_sound : (w : List ℕ) (n slot : ℕ) (start : Address) → created image w n ≡ file_made slot start → Creates w n slot start
  creates_sound w n slot start h =
      let p = accepted_create w n slot start h in
      let a = creatable image g w n j p in
      let e = sym (ap (λ (o : Creation). o.answer) (creation_is image g w n j p)) ∙ h in
      let both = file_made_same (lowest_deleted g image) slot (created_start g image n) start e in
      let s = both.0 in
      let t = both.1 in
      let k : run_start (lowest_run g image n) ≡ rank g start = sym (start_rank image g w n j p) ∙ ap (rank g) t in
      record {
        right = a.right;
        unnamed = a.unnamed;
        slot_is = subst (LowestDeleted g image) s a.slot;
        start_legal = subst (λ (x : Address). legal g x ≡ true) t (legal_of g (run_start (lowest_run g image n)) (omega (arith, a.run.run.inside, (proposal_right g w n a.right).some)));
        run = subst (Lowest g image n) k a.run;
      }

  creates_back : (w : List ℕ) (n slot : ℕ) (start : Address) → Creates w n slot start → created image w n ≡ file_made slot start
  creates_back w n slot start c =
      let d = (lowest_deleted_exactly g image slot).1 c.slot_is in
      let r = (lowest_run_exactly g image n (rank g start)).1 c.run in
      let low : 1 ≤ lowest_deleted g image = omega (arith, d.0, d.1) in
      let p : create_refusal g image w n ≡ Ok tt = only_room w n c.right c.unnamed low ∙ ap no_room r in
      let e = ap (λ (o : Creation). o.answer) (creation_is image g w n j p) in
      let t : created_start g image n ≡ start = ap (λ (x : Option ℕ). address_of g (run_start x)) r ∙ of_rank g start c.start_legal in
      let s = d.0 in
      cc

  pub creates_exactly : (w : List ℕ) (n slot : ℕ) (start : Address) → Exactly (created image w n ≡ file_made slot start) (Creates w n slot start)
  creates_exactly w n slot start = (creates_sound w n slot start, creates_back w n slot start)

  -- a right label of a name not in use, a deleted slot and a run: done
  pub creates : (w : List ℕ) (n : ℕ) → proposal_fault g w n ≡ 0 → Unnamed w → (lowest_deleted g image ≡ 0 → ⊥) → (lowest_run g image n ≡ None → ⊥)
      → created image w n ≡ file_made (lowest_deleted g image) (created_start g image n)
  creates w n z u d r =
      let low : 1 ≤ lowest_deleted g image =
      either (lt_or_le 0 (lowest_deleted g image)) (λ (p : 0 < lowest_deleted g image). p) (λ (p : lowest_deleted g image ≤ 0). absurd (d (omega arith))) in
      ap (λ (o : Creation). o.answer) (creation_is image g w n j (only_room w n z u low ∙ there (lowest_run g image n) r))
    where
      there : (x : Option ℕ) → (x ≡ None → ⊥) → no_room x ≡ Ok tt
      there None f = absurd (f refl)
      there (Some i) f = refl

-- "ROOM FREED BY A DELETE IS USED AGAIN": after a delete of an extent of e records a right label of a name not in use, with 1 to e records, is created
module _ (image : List ℕ) (g : Geometry) (slot : ℕ) (j : judged image ≡ Ok g) (d : delete_refusal g image slot ≡ Ok tt) where
  abbrev t : List ℕ
  t = image_without g slot image

  pub room_used_again : (w : List ℕ) (n : ℕ) → proposal_fault g w n ≡ 0 → Unnamed t g (delete_accepted image g slot j d) w → n ≤ extent_size g (label_at g image slot)
      → created t w n ≡ file_made (lowest_deleted g t) (created_start g t n)
  room_used_again w n z u l =
      creates t g (delete_accepted image g slot j d) w n z u (slot_again image g slot j d) (run_again image g slot j d n l)

  -- and so is its name
  pub name_used_again : (w : List ℕ) (n : ℕ) → proposal_fault g w n ≡ 0 → name_in w ≡ name_of (label_at g image slot) → n ≤ extent_size g (label_at g image slot)
      → created t w n ≡ file_made (lowest_deleted g t) (created_start g t n)
  name_used_again w n z e l =
      let v = delete_accepted image g slot j d in
      room_used_again w n z (λ other a b c k q. ((find_none t g v (name_of (label_at g image slot)) (refuse 13 0)).0 (delete_not_found image g slot j d)).1 other a b c k (q ∙ e)) l
