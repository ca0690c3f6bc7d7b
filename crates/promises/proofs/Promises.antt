-- The promises at the image, each proved of the definitions. `Demands` gathers them under the sentences of the demands.
-- Assumes nothing.
use Rattle.std.specs.Prelude.{ℕ, ◌≡◌, List, length, Ok}
use Rattle.std.proofs.Common.{ap}
use Rattle.standard.specs.Judgement.{judged}
use Rattle.standard.specs.Reading.{Reply, laid_over}
use Rattle.standard.specs.declared.Geometry.{Geometry}
use Rattle.promises.specs.Volumes.IndexReads.{index_bytes, index_found, index_found_at, index_label_named, index_label_in, index_free}
use Rattle.promises.proofs.Locality.{SameForFile, locality, locality_count}
use Rattle.promises.proofs.Salvage.FailedLaws.{failed_volume, elsewhere_same}
use Rattle.promises.proofs.Reading.WholeLaws.{opens_whole, reads_whole}
use Rattle.promises.proofs.Salvage.SalvageImage.{salvage_image, only_blocks}
use Rattle.promises.specs.Promises.{SalvagePromise, SalvageAnyPromise, SameAnswers, LocalityPromise, ElsewherePromise, IndexPromise}

pub salvage_any_promise : SalvageAnyPromise
unfolding SalvageAnyPromise
salvage_any_promise image image' g slot bodies hit j w fail s =
    let ok = opens_whole image g slot bodies j w in
    let f = reads_whole image g slot bodies j w in
    (f.rs, f.same, salvage_image image image' g slot hit f.rs j ok f.clean fail s)

pub salvage_promise : SalvagePromise
unfolding SalvagePromise SalvageAnyPromise
salvage_promise image image' g slot bodies hit j w fail k =
    salvage_any_promise image image' g slot bodies hit j w fail (only_blocks image g slot hit j (opens_whole image g slot bodies j w) k)

pub same_answers : (image image' : List ℕ) (g g' : Geometry) (slot : ℕ) → judged image ≡ Ok g → judged image' ≡ Ok g'
    → SameForFile g image image' slot → SameAnswers image image' slot
same_answers image image' g g' slot j j' same = (
  locality image image' g g' slot j j' same,
  λ m pl out. ap (λ (r : Reply). r.answer) (locality image image' g g' slot j j' same m pl (length out)),
  λ m pl out. ap (λ (r : Reply). laid_over r.body out) (locality image image' g g' slot j j' same m pl (length out)),
  locality_count image image' g g' slot j j' same,
)

pub locality_promise : LocalityPromise
unfolding LocalityPromise SameForFile
locality_promise image image' g g' slot j j' index extents = same_answers image image' g g' slot j j' (index_bytes g image image' index, (λ _. extents))

pub elsewhere_promise : ElsewherePromise
unfolding ElsewherePromise
elsewhere_promise image image' g slot hit j fail index apart =
    let v = failed_volume g hit image image' fail index j in
    let same = elsewhere_same image image' g slot hit fail index apart in
    (v, locality image image' g g slot j v same, locality_count image image' g g slot j v same)

pub index_promise : IndexPromise
unfolding IndexPromise
index_promise image image' g g' j j' index =
    let agree = index_bytes g image image' index in (
      index_found image image' g g' j j' agree,
      index_found_at image image' g g' j j' agree,
      index_label_named image image' g g' j j' agree,
      index_label_in image image' g g' j j' agree,
      index_free image image' g g' j j' agree,
    )
