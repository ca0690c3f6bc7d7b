-- "A place at the end of a block's content goes on in the next block": what is read at a place where nothing more stands in its block is what is read at the place
-- to which the move `next_block` brings it. So a caller may move there himself, and reading and the move cannot part.
-- Assumes nothing.
use Rattle.std.specs.Prelude.{ℕ, suc, ◌<◌, ◌≡◌, refl, Bool, true, false, cond, List, [], ◌∷◌, length, get_or, drop, Result, Ok}
use Rattle.std.proofs.Common.{sym, subst, ◌∙◌, drop-cons, lt-ltb}
use Rattle.std.proofs.Math.Path.{ap}
use Rattle.standard.specs.Layout.{label_at}
use Rattle.standard.specs.Judgement.{judged}
use Rattle.standard.specs.Files.{block_count, open_refusal, file_in}
use Rattle.standard.specs.Labels.{Format, fixed, variable, spanned}
use Rattle.standard.specs.Pieces.{Block, held, look_f, look_v, look_s, look_in, look, blank}
use Rattle.standard.specs.Places.{mark_at, goes_on, next_block}
use Rattle.standard.specs.Records.{Mode, plain, salvage, File, State, marked, fresh, entering, step, in_file}
use Rattle.standard.specs.Reading.{replied, reply_in, opened, reply}
use Rattle.standard.specs.declared.Geometry.{Geometry}
use Rattle.standard.specs.declared.Place.{Place}
use Rattle.promises.specs.Reading.StepLaw.{reading, on_piece, on_blocks, reading_law}
use Rattle.promises.specs.Reading.PlaceLaws.{in_start}
use Rattle.promises.specs.Refusals.Refusing.{reply_on}
use Rattle.standard.specs.declared.Refusal.{Refusal}
use Rattle.promises.proofs.Salvage.SalvageImage.{file_count}

-- NOTHING MORE STANDS at a place of a block that is not lost: from its offset on there is fill, or no byte
pub record Finished (f : File) (pl : Place) : Type 0 where
  pub content : List ℕ
  pub inside : pl.block < length f.blocks
  pub holds : get_or f.blocks pl.block (held []) ≡ held content
  pub nothing : look f.params pl.offset (drop pl.offset content) ≡ blank

-- such is a place at the end of the content
look_none : (f : Format) (R : ℕ) (blocked : Bool) (o : ℕ) → look_in f R blocked o [] ≡ blank
unfolding look_f look_v look_s
look_none fixed R blocked o = refl
look_none variable R blocked o = refl
look_none spanned R blocked o = refl

drop_end : (c : List ℕ) → drop (length c) c ≡ []
drop_end [] = refl
drop_end (x ∷ c) = drop_end c

pub at_the_end : (f : File) (pl : Place) (content : List ℕ) → pl.block < length f.blocks → get_or f.blocks pl.block (held []) ≡ held content
    → pl.offset ≡ length content → Finished f pl
unfolding look
at_the_end f pl content i h e =
    record {
      content = content;
      inside = i;
      holds = h;
      nothing = ap (λ (rest : List ℕ). look f.params pl.offset rest) (ap (λ (o : ℕ). drop o content) e ∙ drop_end content)
          ∙ look_none f.params.format f.params.R f.params.blocked pl.offset;
    }

-- the mark counts at the next block's start where it counted before
enters_alike : (m : Mode) (f : Format) (o : ℕ) (mark : Bool) → entering m f o mark ≡ entering m f 0 (mark_at o mark)
enters_alike plain f o mark = refl
enters_alike salvage fixed o mark = refl
enters_alike salvage variable o mark = refl
enters_alike salvage spanned o mark = go (mark_at o mark)
  where
    go : (t : Bool) → cond t marked fresh ≡ entering salvage spanned 0 t
    go true = refl
    go false = refl

pub next_inside : (count : ℕ) (pl : Place) → pl.block < count → next_block count pl ≡ goes_on pl
unfolding next_block
next_inside count pl l = rw (lt-ltb pl.block count l)

module _ (m : Mode) (f : File) (pl : Place) (over : Finished f pl) where
  blocks_are : drop pl.block f.blocks ≡ held over.content ∷ drop (suc pl.block) f.blocks
  blocks_are = drop-cons f.blocks pl.block (held []) over.inside ∙ ap (λ (x : Block). x ∷ drop (suc pl.block) f.blocks) over.holds

  -- ONE READING, of the file
  pub step_goes_on : step m f pl ≡ step m f (next_block (length f.blocks) pl)
  unfolding step
  step_goes_on =
      let st : State = entering m f.params.format pl.offset pl.mark in
      reading_law m f.params f.blocks pl.block pl.offset st
      ∙ ap (on_blocks m f.params f.blocks pl.block pl.offset st) blocks_are
      ∙ ap (on_piece m f.params f.blocks pl.block pl.offset over.content st) over.nothing
      ∙ ap (reading m f.params f.blocks (suc pl.block) 0) (enters_alike m f.params.format pl.offset pl.mark)
      ∙ ap (step m f) (sym (next_inside (length f.blocks) pl over.inside))

  next_in_file : in_file f (next_block (length f.blocks) pl) ≡ true
  next_in_file =
      subst (λ (q : Place). in_file f q ≡ true) (sym (next_inside (length f.blocks) pl over.inside))
      (in_start f (suc pl.block) over.inside (mark_at pl.offset pl.mark))

  pub reply_goes_on : in_file f pl ≡ true → (room : ℕ) → reply_in m f pl room ≡ reply_in m f (next_block (length f.blocks) pl) room
  unfolding reply_in
  reply_goes_on h room = rw (h, next_in_file) (ap (replied f room) step_goes_on)

-- IN AN IMAGE, whatever the mode, the place and the room
pub goes_on_lem : (image : List ℕ) (g : Geometry) → judged image ≡ Ok g → (m : Mode) (slot : ℕ) (pl : Place)
    → in_file (file_in g image (label_at g image slot)) pl ≡ true → Finished (file_in g image (label_at g image slot)) pl
    → (room : ℕ) → reply m image slot pl room ≡ reply m image slot (next_block (block_count g image (label_at g image slot)) pl) room
unfolding reply
goes_on_lem image g j m slot pl h over room =
    let f = file_in g image (label_at g image slot) in
    ap (λ (v : Result Geometry Refusal). reply_on v m image slot pl room) j
    ∙ ap (opened (open_refusal g image slot)) (reply_goes_on m f pl over h room ∙ ap (λ (n : ℕ). reply_in m f (next_block n pl) room) (file_count g image (label_at g image slot)))
    ∙ ap (λ (v : Result Geometry Refusal). reply_on v m image slot (next_block (block_count g image (label_at g image slot)) pl) room) (sym j)
