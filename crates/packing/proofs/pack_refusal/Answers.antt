-- `pack_refusal` meets its contract: the four parts stand in bits of their own, so that no sum wraps.
-- Assumes nothing.
use Rattle.packing.proofs.Laws.{refusal_packed}
use Rattle.packing.proofs.pack_refusal.Goals as goal

pub returns : goal.returns
returns c = search refusal_packed
