-- What a write is to do, once nothing can be refused any more.
-- Assumes nothing.
use Rattle.std.specs.Prelude.{ℕ, ◌≡◌, Bool, cond, not, List, [], ◌∷◌, ltb, eqb, Result, Ok, Err, ⊤}
use Rattle.standard.specs.Refusals.{refuse, given_when, in_order, or_else}
use Rattle.standard.specs.Layout.{label_at}
use Rattle.standard.specs.Labels.{Format, block_length, start_of, format_of, is_blocked}
use Rattle.standard.specs.Files.{extent_size, records_to_block, blocks_held, refusal17}
use Rattle.standard.specs.Judgement.{judged}
use Rattle.standard.specs.Writing.{total, packing, needed, data_end_after, refusal25, refusal26, refusal27, write_refusal}
use Rattle.standard.specs.declared.Geometry.{Geometry}
use Rattle.promises.specs.Writing.NeededLaws.{Level, level_from}
use Rattle.labels.specs.Forms.{form_in}
use Rattle.sizing.specs.Lists.{wrong_from}
use Rattle.writing.specs.declared.Plan.{Plan}
use Rattle.standard.specs.declared.Refusal.{Refusal}

-- the plan for so many blocks, of which the last leaves so many bytes unused
unfoldable pub plan_for : Geometry → List ℕ → ℕ → ℕ → ℕ → Plan
plan_for g image slot blocks unused =
    let h = label_at g image slot in
    record {
      first = record { at = start_of h; left = extent_size g h };
      form = form_in (format_of h);
      blocked = is_blocked h;
      B = block_length h;
      m = records_to_block g h;
      blocks = blocks;
      U = unused;
      end = data_end_after g image h blocks;
    }

-- of a list
abbrev pub plan_of : Geometry → List ℕ → ℕ → List ℕ → List ℕ → Plan
plan_of g image slot bodies lengths =
    let h = label_at g image slot in
    plan_for g image slot (needed h bodies lengths) (packing h bodies lengths).U

abbrev pub plan_or : Result ⊤ Refusal → Plan → Result Plan Refusal
plan_or (Ok _) p = Ok p
plan_or (Err r) p = Err r

-- "Writing: 13-16, 24, 17, 25-27": the first refusal, or the plan
unfoldable pub plan_in : Geometry → List ℕ → ℕ → List ℕ → List ℕ → Result Plan Refusal
plan_in g image slot bodies lengths = plan_or (write_refusal g image slot bodies lengths) (plan_of g image slot bodies lengths)

-- 27 "more blocks needed than the extent holds", needed; or the plan
unfoldable pub fitted_by : Geometry → List ℕ → ℕ → Level → Result Plan Refusal
fitted_by g image slot l =
    cond (ltb (blocks_held g image (label_at g image slot)) l.blocks) (Err (refuse 27 l.blocks)) (Ok (plan_for g image slot l.blocks l.room))

-- where the list ends, by its lengths
abbrev pub level_on : List ℕ → List ℕ → Level
level_on h lengths = level_from (format_of h) (is_blocked h) (block_length h) 0 0 lengths

-- 17, from what a walk over the extent found
abbrev pub wrong_by : Result Bool Refusal → Result ⊤ Refusal
wrong_by (Err r) = Err r
wrong_by (Ok _) = Ok tt

-- 25 and 26, by the bytes lent, the format, B and R
unfoldable pub fault_by : Format → ℕ → ℕ → ℕ → List ℕ → Result ⊤ Refusal
fault_by f B R size lengths = or_else (given_when (not (eqb (total lengths) size)) (refuse 25 0)) (wrong_from f B R 0 lengths)

-- the plan of a write that is accepted
abbrev pub Accepted : Geometry → List ℕ → ℕ → List ℕ → List ℕ → Plan → Type 0
Accepted g image slot bodies lengths p =
    (judged image ≡ Ok g) × (write_refusal g image slot bodies lengths ≡ Ok tt) × (p ≡ plan_of g image slot bodies lengths)

-- "24, 17, 25-27": the last four of these, behind 24
unfoldable pub draft_refusal : Geometry → List ℕ → ℕ → List ℕ → List ℕ → Result ⊤ Refusal
draft_refusal g image slot bodies lengths =
    let h = label_at g image slot in
    in_order (refusal17 g image h ∷ refusal25 bodies lengths ∷ refusal26 h lengths ∷ refusal27 g image h bodies lengths ∷ [])
