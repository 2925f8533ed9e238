use Rattle.std.proofs.Common.{◌+◌, arith, sym, ◌∙◌, inl, inr}
use Rattle.std.proofs.lemmas.Bool.{cases_lt}
use Rattle.std.proofs.lemmas.List.{get_or_past}
use Rattle.wasp_fixed.specs.Curves.{cell}
use Rattle.sim_fast.proofs.Shares.{step-ones, step-end}
use Rattle.sim_fast.proofs.shift.step_cells.Goals as goal

pub returns : goal.returns
returns c =
    let cells = c.args.cells.now in
    record {
      value = λ x lt. elim (cases_lt x c.saturating_sub-start.result) [
        | inl low ↦
            c.scale_cells.ensures.kept x (omega (arith, low, c.saturating_sub-start.ensures, c.saturating_sub-middle.ensures, c.requires.ones))
            ∙ (c.mix_cells.ensures.kept x low ∙ (c.fill_ones.ensures x low
            ∙ sym (step-ones (cell cells) c.args.capacity c.args.share.rate x (omega (arith, c.args.share.below)) (c.requires.first x (omega (arith, low, c.saturating_sub-start.ensures))) (c.requires.first (x + c.args.capacity) (omega (arith, low, c.saturating_sub-start.ensures))))))
        | inr high ↦ elim (cases_lt x c.saturating_sub-middle.result) [
          | inl low ↦ c.scale_cells.ensures.kept x low ∙ c.mix_cells.ensures.value x high low
          | inr past ↦
              c.scale_cells.ensures.value x past (omega (arith, lt))
              ∙ sym (step-end (cell cells) c.args.capacity c.args.share.rate x (get_or_past cells (x + c.args.capacity) 0 (omega (arith, past, lt, c.saturating_sub-middle.ensures))))
        ]
      ];
    }
