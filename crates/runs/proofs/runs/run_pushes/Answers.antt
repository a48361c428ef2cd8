use Rattle.std.proofs.Common.{◌≡◌, ◌-◌, ◌^◌, ◌<◌, ◌++◌, length, drop, refl, ap, ◌∙◌, subst, ap₂, arith, rules}
use Rattle.std.proofs.lemmas.List.{length-take}
use Rattle.kernels.specs.Moved.{limit_at_width}
use Rattle.chunked.specs.Served.{state_of}
use Rattle.runs.specs.Runs.{SamePlaces, after, answers, ended_in, new_state}
use Rattle.runs.specs.Laws.{Fresh, Ran}
use Rattle.runs.proofs.Balance.{balance}
use Rattle.runs.proofs.Fees.{limit_small}
use Rattle.runs.proofs.Noted.{ran, ran_balanced, ran_not, same_state}
use Rattle.runs.proofs.runs.run_pushes.Goals.{then-batch-n, else-batch-n}
use Rattle.runs.proofs.runs.run_pushes.Goals as goal

pub push_all-requires : goal.push_all-requires
push_all-requires g c = length-take (length c.args.batch.now.pushes.now - 0) c.args.batch.now.notes.now ∙ (let h = c.if-batch-n.false in omega arith)

pub returns : goal.returns
returns g c =
    let L = limit_at_width g.D.Item.Element.WIDTH in
    let readings = g.D.ChunkDecoder.readings in
    let allowance = g.D.ChunkDecoder.allowance in
    let ps = c.args.batch.now.pushes.now in
    let before = c.args.batch.now.notes.now in
    let s = new_state (readings c.args.source) (allowance c.args.source) c.args.batch.now.output.now c.args.batch.now.scratch.now in
    let at = c.if-batch-n in
    let t = ended_in readings allowance (record { source = c.finish.result; first = c.left-first.result; written = c.written-written.result; fees = c.fees-fees.result; made = at.made }) at.batch.output.now at.batch.scratch.now in
    let told : t ≡ state_of readings allowance at.filter at.batch.output.now at.batch.scratch.now =
    same_state readings allowance (ap (λ d. record { source = d; written = c.written-written.result; fees = c.fees-fees.result }) c.finish.ensures ∙ ap₂ (λ w f. record { source = at.filter.source; written = w; fees = f }) c.written-written.ensures c.fees-fees.ensures) refl refl in
    let new : state_of readings allowance c.new-filter.result c.args.batch.now.output.now c.args.batch.now.scratch.now ≡ s = same_state readings allowance c.new-filter.ensures refl refl in
    let r : Ran L ps s t before at.batch.notes.now at.made =
    elim at.branch [
      | then-batch-n w ↦ ran_not L ps s before t at.batch.notes.now at.made w.if-batch-n.true (told ∙ same_state readings allowance w.filter-is (ap (λ b. b.output.now) w.batch-is) (ap (λ b. b.scratch.now) w.batch-is) ∙ new) (ap (λ b. b.notes.now) w.batch-is) w.made-is
      | else-batch-n w ↦ ran L ps s before t at.batch.notes.now w.push_all.new.notes at.made w.if-batch-n.false (told ∙ same_state readings allowance w.filter-is (ap (λ b. b.output.now) w.batch-is) (ap (λ b. b.scratch.now) w.batch-is) ∙ w.push_all.ensures.last ∙ ap (λ u. after L u ps) new) (w.push_all.ensures.noted ∙ ap (λ u. answers L u ps) new) (ap (λ b. b.notes.now) w.batch-is ∙ ap (λ n. w.push_all.new.notes ++ drop n before) (let e : length ps - 0 ≡ length ps = omega arith in e)) w.made-is
    ] in
    let fresh : Fresh s = record { whole = g.D.ChunkDecoder.whole c.args.source; small = subst (λ n. n < 2 ^ 64) c.left-first.ensures c.left-first.type_inv; room = search rules; none_written = refl; none_paid = refl } in
    let kept : SamePlaces c.args.batch.now at.batch =
    elim at.branch [
      | then-batch-n w ↦ record { pushes = ap (λ b. b.pushes) w.batch-is; output = ap (λ b. b.output.ghost_name) w.batch-is; scratch = ap (λ b. b.scratch.ghost_name) w.batch-is; notes = ap (λ b. b.notes.ghost_name) w.batch-is }
      | else-batch-n w ↦ record { pushes = ap (λ b. b.pushes) w.batch-is; output = ap (λ b. b.output.ghost_name) w.batch-is; scratch = ap (λ b. b.scratch.ghost_name) w.batch-is; notes = ap (λ b. b.notes.ghost_name) w.batch-is }
    ] in
    record {
      ran = r;
      kept = kept;
      first = c.left-first.ensures;
      fresh = fresh;
      balanced = ran_balanced L ps s before t at.batch.notes.now at.made r (balance L s ps (limit_small g.D.Item.Element.WIDTH) fresh);
    }
