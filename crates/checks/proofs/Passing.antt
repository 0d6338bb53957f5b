-- What a caller has of a request that passes the checks. Assumes nothing.
use mathlib.Core.Path.{◌≡◌, ap, ◌∙◌}
use Prim.Native.Nat.{ℕ, ◌+◌, ◌*◌, ◌≤◌, ◌<◌}
use native.Mathlib.Nat.{mul-le-mul_left}
use native.Mathlib.Omega.{arith}
use Rattle.labels.specs.Labels.{label_count}
use Rattle.expression.specs.declared.Counts.{Counts}
use Rattle.expression.specs.Limits.{depth_limit, table_limit, areas_for, area_count, workspace_need}
use Rattle.expression.specs.Checks.{Passed, Request, check, check_bytes, depth_of, need_of}
use Rattle.expression.proofs.Accepted.{Accepted, check-accepted}
use Rattle.checks.specs.declared.frames.Frame.{Frame}
use Rattle.checks.specs.Frames.{frame_of}

module _ (a : Request) {z : Counts} (passed : check label_count a ≡ Passed z) where
  abbrev pub accepted : Accepted label_count a z
  accepted = check-accepted label_count a z passed

  -- what a frame may be asked for
  pub framed : (z.deepest ≤ depth_limit) × (a.pair_limit ≤ table_limit) × (a.subset_limit ≤ table_limit)
  framed = (accepted.joined.limited.deepest, accepted.pairs.1, accepted.subsets.1)

  -- the frame has the words needed, in areas for all operands and scratch
  pub need-is : workspace_need z.deepest a.pair_limit a.subset_limit ≡ need_of label_count a
  need-is = ap (λ (d : ℕ). workspace_need d a.pair_limit a.subset_limit) accepted.deepest

  module _ (f : Frame) (e : f ≡ frame_of z.deepest a.pair_limit a.subset_limit) where
    pub frame-need : f.need ≡ need_of label_count a
    frame-need = ap (λ (x : Frame). x.need) e ∙ need-is

    pub frame-areas : f.areas ≡ areas_for (depth_of label_count a.bytes)
    frame-areas = ap (λ (x : Frame). x.areas) e ∙ ap areas_for accepted.deepest

    pub frame-deep : (n : Counts) × (check_bytes label_count a.bytes ≡ Passed n) × (n.deepest < f.areas)
    frame-deep = (z, accepted.bytes, rw e (omega arith))

    pub frame-limits : (3 ≤ f.width) × (f.width ≤ 1026) × (1 ≤ f.limit) × (f.limit ≤ 1024)
    frame-limits = rw e (omega (arith, accepted.subsets.0), omega (arith, framed.2), accepted.pairs.0, framed.1)

    pub frame-fits : (f.need ≤ a.room) × (f.areas * (f.limit * f.width) ≤ f.need) × (f.areas ≤ area_count)
    frame-fits = (rw frame-need accepted.room, rw e (omega arith), rw e (omega (arith, framed.0)))

    -- plain tables take no more than their share of the words needed
    pub plain_fits : (f.need ≤ a.room) × (f.areas * (f.limit * 2) ≤ f.need) × (f.areas ≤ area_count)
    plain_fits = (frame-fits.0, rw e (mul-le-mul_left (z.deepest + 1) (mul-le-mul_left a.pair_limit (omega arith))), frame-fits.2)
