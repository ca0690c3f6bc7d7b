-- Request 2026-01, "the data end is the start": the new file has no blocks, and reading its start answers End, unless the run has a record whose mark is
-- incorrect and whose first byte is not `F` (17).
-- Assumes nothing.
use Rattle.std.specs.Prelude.{ℕ, ◌≡◌, refl, true, false, List, [], ◌∷◌, Result, Ok, Err, ⊤}
use Rattle.std.proofs.Math.Path.{sym}
use Rattle.std.proofs.Common.{ap, ◌∙◌, arith}
use borrow.Author.Tests.{eq-eqb}
use Rattle.standard.specs.Characters.{every}
use Rattle.standard.specs.Refusals.{given_when, in_order}
use Rattle.standard.specs.Layout.{slot_ordinal}
use Rattle.standard.specs.Addresses.{rank, legal, ordinal}
use Rattle.standard.specs.Labels.{Format, fixed, variable, spanned, start_of, end_of, unused_count}
use Rattle.standard.specs.Slots.{has_label}
use Rattle.standard.specs.Judgement.{judged}
use Rattle.standard.specs.Pieces.{in_blocks, ahead}
use Rattle.standard.specs.Places.{start}
use Rattle.standard.specs.Records.{Mode, plain, salvage, fresh, entering, first_met, step, in_file, File}
use Rattle.standard.specs.Reading.{unanswered, reply_in, reply}
use Rattle.standard.specs.Files.{extent, data_end_at_start, block_count, blocks_from, file_in, splits_block, refusal17, refusal18, count_or, count_refusal, counted, open_refusal}
use Rattle.standard.specs.Creating.{lowest_deleted, create_refusal, created_start, created_end, created_label, image_created}
use Rattle.standard.specs.declared.Geometry.{Geometry}
use Rattle.standard.specs.declared.Address.{Address}
use Rattle.standard.specs.declared.Refusal.{Refusal}
use Rattle.standard.specs.declared.Answer.TheVariants.{End}
use Rattle.promises.specs.Ground.Lists.{Every, every_map}
use Rattle.promises.specs.Images.AddressLaws.{ordinal_ge}
use Rattle.promises.specs.Volumes.AcceptedLaws.{fault_none}
use Rattle.promises.specs.Volumes.VolumeNumbers.{numbers_of_lem, slot_in_index}
use Rattle.promises.specs.Extents.ExtentAddresses.{Between, rising_every, extent_rising}
use Rattle.promises.proofs.Extents.ExtentReads.{SameSector, same_alike, alike_wrongs}
use Rattle.promises.specs.Volumes.FreeLaws.{has_label_lem}
use Rattle.promises.specs.Making.Drafts.{Fields}
use Rattle.promises.proofs.Making.Creations.{created_label_lem, created_is_label, created_right, created_known, created_start_lem, created_data_end, created_fields, create_edit, create_accepted}

-- a file of no blocks: its start answers End
enters_fresh : (m : Mode) (f : Format) → entering m f 0 false ≡ fresh
enters_fresh plain f = refl
enters_fresh salvage fixed = refl
enters_fresh salvage variable = refl
enters_fresh salvage spanned = refl

pub nothing_in : (m : Mode) (f : File) (room : ℕ) → f.blocks ≡ [] → reply_in m f start room ≡ record { answer = Ok (End start); body = [] }
unfolding reply_in in_file step ahead in_blocks first_met
nothing_in m f room e = rw (e, enters_fresh m f.params.format)

one_left : (c : Result ⊤ Refusal) → in_order (c ∷ Ok tt ∷ []) ≡ c
unfolding in_order
one_left (Ok _) = refl
one_left (Err r) = refl

module _ (image : List ℕ) (g : Geometry) (w : List ℕ) (n : ℕ) (j : judged image ≡ Ok g) (c : create_refusal g image w n ≡ Ok tt) where
  abbrev slot : ℕ
  slot = lowest_deleted g image

  abbrev h : List ℕ
  h = created_label g image w n

  abbrev t : List ℕ
  t = image_created g image w n

  fields : Fields w (created_start g image n) (created_end g image n) h
  fields = created_fields image g w n j c

  unused_none : unused_count h ≡ 0
  unfolding unused_count every
  unused_none = rw fields.unused

  at_start : data_end_at_start g h ≡ true
  unfolding data_end_at_start
  at_start = eq-eqb _ _ (ap (rank g) (created_data_end image g w n j c ∙ sym (created_start_lem image g w n j c)))

  no_blocks : block_count g t h ≡ 0
  unfolding block_count
  no_blocks = rw at_start

  has : has_label g t slot ≡ true
  has = let e = create_edit image g w n j c in has_label_lem g t slot e.low e.high (created_is_label image g w n j c)

  not_18 : refusal18 g t h slot ≡ Ok tt
  unfolding given_when splits_block
  not_18 = rw (at_start, unused_none)

  -- no record of the run was touched
  run_kept : Every (SameSector g image t) (extent g h)
  run_kept =
      every_map (Between g (rank g (start_of h)) (rank g (end_of h))) (SameSector g image t) (λ a p. kept a p.0) (extent g h)
      (rising_every g (rank g (start_of h)) (rank g (end_of h)) (extent g h) (extent_rising g h (fault_none g h (created_right image g w n j c))))
    where
      kept : (a : Address) → legal g a ≡ true → SameSector g image t a
      kept a p =
          let e = create_edit image g w n j c in
          e.others (ordinal g a) (λ (q : ordinal g a ≡ slot_ordinal slot). omega (arith, ordinal_ge g a p, slot_in_index g slot (numbers_of_lem image g j) e.high))

  wrongs : refusal17 g image h ≡ refusal17 g t h
  wrongs = alike_wrongs g image t (numbers_of_lem image g j).size_low (extent g h) (same_alike g image t (extent g h) run_kept)

  -- THE COUNT: 0 blocks, or 17 with the first wrong record of the run
  count_left : count_refusal g t slot ≡ refusal17 g image h
  unfolding count_refusal in_order given_when
  count_left =
      rw (created_label_lem image g w n j c, has, created_known image g w n j c) (ap (λ (x : Result ⊤ Refusal). in_order (refusal17 g t h ∷ x ∷ [])) not_18 ∙ one_left (refusal17 g t h) ∙ sym wrongs)

  pub created_count : counted t slot ≡ count_or (refusal17 g image h) 0
  unfolding counted
  created_count = rw (create_accepted image g w n j c, count_left, created_label_lem image g w n j c, no_blocks)

  -- READING ITS START answers End, in both modes and with any output, or the same 17
  open_left : open_refusal g t slot ≡ refusal17 g image h
  unfolding open_refusal in_order given_when
  open_left =
      rw (created_label_lem image g w n j c, has, created_known image g w n j c, fields.at42, fields.at45)
      (ap (λ (x : Result ⊤ Refusal). in_order (refusal17 g t h ∷ x ∷ [])) not_18 ∙ one_left (refusal17 g t h) ∙ sym wrongs)

  blocks_none : (file_in g t h).blocks ≡ []
  unfolding file_in blocks_from
  blocks_none = rw no_blocks

  pub created_reads : (m : Mode) (room : ℕ) → refusal17 g image h ≡ Ok tt → reply m t slot start room ≡ record { answer = Ok (End start); body = [] }
  unfolding reply
  created_reads m room p =
      rw (create_accepted image g w n j c, open_left, p, created_label_lem image g w n j c) (nothing_in m (file_in g t h) room blocks_none)

  pub created_wrong : (m : Mode) (room : ℕ) (r : Refusal) → refusal17 g image h ≡ Err r → reply m t slot start room ≡ unanswered r
  unfolding reply
  created_wrong m room r p = rw (create_accepted image g w n j c, open_left, p)
