-- Request 2026-01, "Existing files read as before": what that says of a slot, and that it holds of every slot but the one whose sector was exchanged. Creating and
-- deleting are two such exchanges, so it is shown once for both.
-- Assumes nothing.
use Rattle.std.specs.Prelude.{ℕ, ◌≤◌, ◌≡◌, List, length, Ok}
use Rattle.std.proofs.Common.{sym, ap}
use Rattle.standard.specs.Layout.{slot_count, label_at}
use Rattle.standard.specs.Judgement.{judged}
use Rattle.standard.specs.Records.{Mode}
use Rattle.standard.specs.Reading.{Reply, laid_over, read_answer, output_after}
use Rattle.standard.specs.Writing.{written}
use Rattle.standard.specs.Files.{counted}
use Rattle.standard.specs.Finding.{found_at}
use Rattle.standard.specs.declared.Geometry.{Geometry}
use Rattle.standard.specs.declared.Place.{Place}
use Rattle.promises.specs.Volumes.VolumeNumbers.{Numbers}
use Rattle.promises.proofs.Locality.{reply_same, counted_same}
use Rattle.promises.proofs.Making.SameWrites.{written_same}
use Rattle.promises.proofs.Making.SlotEdits.{Edit, other_label, other_file, other_found_slot}

-- every reading and its output, the count, the answer to every write, what is found in the slot, and its label
pub record AsBefore (g : Geometry) (image after : List ℕ) (other : ℕ) : Type 0 where
  pub reads : (m : Mode) (pl : Place) (out : List ℕ) → read_answer m after other pl out ≡ read_answer m image other pl out
  pub outputs : (m : Mode) (pl : Place) (out : List ℕ) → output_after m after other pl out ≡ output_after m image other pl out
  pub counts : counted after other ≡ counted image other
  pub writes : (b l : List ℕ) → written after other b l ≡ written image other b l
  pub finds : found_at after other ≡ found_at image other
  pub label : 1 ≤ other → other ≤ slot_count g → label_at g after other ≡ label_at g image other

module _ (g : Geometry) (image after : List ℕ) (slot : ℕ) (ns : Numbers g) (e : Edit g image after slot) (j : judged image ≡ Ok g) (j' : judged after ≡ Ok g)
    (other : ℕ) (ne : other ≡ slot → ⊥) where
  found_same : found_at after other ≡ found_at image other
  unfolding found_at
  found_same = rw (j, j') (sym (other_found_slot g image after slot ns e other ne))

  pub others_stay : AsBefore g image after other
  others_stay =
      let file = other_file g image after slot ns e j other ne in
      let same = reply_same g image after other ns.size_low file j j' in
      record {
        reads = λ m pl out. ap (λ (r : Reply). r.answer) (sym (same m pl (length out)));
        outputs = λ m pl out. ap (λ (r : Reply). laid_over r.body out) (sym (same m pl (length out)));
        counts = sym (counted_same g image after other ns.size_low file j j');
        writes = λ b l. sym (written_same g image after other ns.size_low file j j' b l);
        finds = found_same;
        label = λ low high. sym (other_label g image after slot ns e other ne high);
      }
