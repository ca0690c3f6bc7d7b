-- A slot that is as it was before (`AsBefore`, of the definitions): whoever reads it, counts it, writes to it or asks for it hears what he heard before. Used of every
-- slot but the one that a create or a delete has changed.
-- Assumes nothing.
use Rattle.std.specs.Prelude.{ℕ, ◌≡◌, List, Result}
use Rattle.std.proofs.Common.{sym, ◌∙◌}
use Rattle.standard.specs.Records.{Mode}
use Rattle.standard.specs.declared.Geometry.{Geometry}
use Rattle.standard.specs.declared.Place.{Place}
use Rattle.standard.specs.declared.Found.{Found}
use Rattle.promises.proofs.Making.OthersStay.{AsBefore}
use Rattle.demanded.specs.Calls.{Response, Meets, InSlot, in_slot, ask, give, find_slot, count, contract}
use Rattle.demanded.specs.Called.{alike}
use Rattle.demanded.specs.Readers.{Reader, Reads}
use Rattle.standard.specs.declared.Refusal.{Refusal}
use Rattle.demanded.specs.Writers.{Writer, Writes}

module _ (g : Geometry) (image after : List ℕ) (other : ℕ) (same : AsBefore g image after other) where
  pub read_as_before : (m : Mode) (r : Reader) → Reads m r → (pl : Place) (out : List ℕ)
      → ((r (ask after other pl out)).answer ≡ (r (ask image other pl out)).answer) × ((r (ask after other pl out)).after ≡ (r (ask image other pl out)).after)
  read_as_before m r reads pl out = (
    (reads (ask after other pl out)).0 ∙ same.reads m pl out ∙ sym (reads (ask image other pl out)).0,
    (reads (ask after other pl out)).1 ∙ same.outputs m pl out ∙ sym (reads (ask image other pl out)).1,
  )

  pub counted_as_before : (counter : InSlot → Response (Result ℕ Refusal)) → Meets (contract count) counter
      → (counter (in_slot after other)).answer ≡ (counter (in_slot image other)).answer
  counted_as_before counter counts = alike (contract count) counter counts (in_slot after other) (in_slot image other) same.counts

  pub written_as_before : (writer : Writer) → Writes writer → (b l : List ℕ) → (writer (give after other b l)).answer ≡ (writer (give image other b l)).answer
  written_as_before writer writes b l = (writes (give after other b l)).0 ∙ same.writes b l ∙ sym (writes (give image other b l)).0

  pub found_as_before : (finder : InSlot → Response (Result Found Refusal)) → Meets (contract find_slot) finder
      → (finder (in_slot after other)).answer ≡ (finder (in_slot image other)).answer
  found_as_before finder finds = alike (contract find_slot) finder finds (in_slot after other) (in_slot image other) same.finds
