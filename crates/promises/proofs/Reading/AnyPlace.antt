-- "Any place in the file may be asked": following a file from any place in it gives what the pieces ahead of that place make, joined.
-- Assumes nothing.
use Rattle.std.specs.Prelude.{ℕ, suc, ◌<◌, ◌≤◌, ◌≡◌, refl, true, List, [], ◌∷◌, length, take, drop, Ok}
use Rattle.std.proofs.Common.{sym, ap, subst, ◌∙◌, take_all, arith, le_refl}
use Rattle.standard.specs.Layout.{label_at}
use Rattle.standard.specs.Judgement.{judged}
use Rattle.standard.specs.Files.{open_refusal, file_in}
use Rattle.standard.specs.Pieces.{Block, lost_block, held, Token, in_block, from_tail, ahead}
use Rattle.standard.specs.Records.{Mode, File, State, entering, in_file}
use Rattle.standard.specs.Listed.{Item, read_on, join}
use Rattle.standard.specs.Labels.{Params}
use Rattle.standard.specs.declared.Geometry.{Geometry}
use Rattle.standard.specs.declared.Place.{Place}
use Rattle.promises.specs.Ground.Basics.{either, lt_or_le}
use Rattle.promises.specs.Reading.PiecesLaws.{Chained, blocks_chained, pieces_chained, drop_tail, next_ahead}
use Rattle.promises.specs.Reading.ReadingLaws.{one_more, onward}
use Rattle.promises.specs.Reading.ListedLaws.{Closed, fewer, more, length_read, join_closed}
use Rattle.promises.specs.Reading.Following.{following, heard_in}
use Rattle.promises.proofs.Reading.FollowingLaws.{following_is}

-- what stands ahead of any place is chained
tail_chained : (p : Params) (bs : List Block) (b o : ℕ) (xs : List Block) → drop b bs ≡ xs → Chained p bs (from_tail p b o xs)
unfolding in_block
tail_chained p bs b o [] e = tt
tail_chained p bs b o (lost_block sz ∷ xs) e = (next_ahead p bs b (lost_block sz) xs e, blocks_chained p bs (suc b) xs (drop_tail b bs e))
tail_chained p bs b o (held c ∷ xs) e = pieces_chained p bs b c xs e (blocks_chained p bs (suc b) xs (drop_tail b bs e)) (suc (length c)) o (omega arith)

ahead_chained : (p : Params) (bs : List Block) (b o : ℕ) → Chained p bs (ahead p bs b o)
unfolding ahead
ahead_chained p bs b o = tail_chained p bs b o (drop b bs) refl

-- the list from a place on: the pieces ahead of it, joined
abbrev pub listed_from : Mode → File → Place → List Item
listed_from m f pl = join m f.params (ahead f.params f.blocks pl.block pl.offset) (entering m f.params.format pl.offset pl.mark)

-- enough readings give it all, so many of them give so much of it
read_all_from : (m : Mode) (f : File) (pl : Place) → read_on (suc (length (ahead f.params f.blocks pl.block pl.offset))) m f pl ≡ listed_from m f pl
read_all_from m f pl =
    let ts : List Token = ahead f.params f.blocks pl.block pl.offset in
    let st : State = entering m f.params.format pl.offset pl.mark in
    one_more m f (length ts) pl ts st refl refl (onward m f ts (ahead_chained f.params f.blocks pl.block pl.offset) (length ts) (le_refl (length ts)) st)

pub read_on_from : (n : ℕ) (m : Mode) (f : File) (pl : Place) → read_on n m f pl ≡ take n (listed_from m f pl)
read_on_from n m f pl =
    let k : ℕ = suc (length (ahead f.params f.blocks pl.block pl.offset)) in
    let e : read_on k m f pl ≡ listed_from m f pl = read_all_from m f pl in
    either (lt_or_le n k)
    (λ (l : n < k). fewer m f n k (omega arith) pl ∙ ap (take n) e)
    (λ (l : k ≤ n).
    let c : Closed (listed_from m f pl) =
    join_closed m f.params (ahead f.params f.blocks pl.block pl.offset) (entering m f.params.format pl.offset pl.mark) in
    let same : read_on n m f pl ≡ listed_from m f pl = more m f k n l pl (subst Closed (sym e) c) ∙ e in
    let short : length (listed_from m f pl) ≤ n = subst (λ (is : List Item). length is ≤ n) same (length_read m f n pl) in
    same ∙ sym (take_all n (listed_from m f pl) short))

-- N READINGS FROM ANY PLACE IN THE FILE, into any output
pub following_from : (image : List ℕ) (g : Geometry) (slot : ℕ) → judged image ≡ Ok g → open_refusal g image slot ≡ Ok tt
    → (m : Mode) (n : ℕ) (out : List ℕ) (pl : Place) → in_file (file_in g image (label_at g image slot)) pl ≡ true
    → following n m image slot out pl ≡ heard_in (length out) (take n (listed_from m (file_in g image (label_at g image slot)) pl))
following_from image g slot j ok m n out pl i =
    let f = file_in g image (label_at g image slot) in
    following_is image g slot j ok n m out pl i ∙ ap (heard_in (length out)) (read_on_from n m f pl)
