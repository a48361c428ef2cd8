use Rattle.std.proofs.Common.{◌≡◌, ◌+◌, ◌*◌, ◌/◌, ◌%◌, ◌^◌, ◌<◌, ap, ◌∙◌, arith, pow_pos, rules}
use Rattle.std.proofs.lemmas.Nat.{one_shl}
use Rattle.slices.proofs.Extracts.{entries, entries_all, entries_more, entries_none, entries_room, entry_small}
use Rattle.slices.proofs.pext.pext_byte.Goals as goal

pub loop-j-init : goal.loop-j-init
loop-j-init c = entries_none 8 c.args.src c.args.mask

pub overflow_mul-all : goal.overflow_mul-all
overflow_mul-all c =
    let room = entries_room c.args.src c.args.mask c.loop-j.j c.loop-j.all c.loop-j.invariant in
    let fits : 2 * c.loop-j.all < 2 ^ 64 = omega arith in
    search rules

pub overflow_shr-all : goal.overflow_shr-all
overflow_shr-all c = let small = entry_small c.args.mask _ c.table_entry.result c.table_entry.ensures in omega arith

pub overflow_add-all : goal.overflow_add-all
overflow_add-all c =
    let room = entries_room c.args.src c.args.mask c.loop-j.j c.loop-j.all c.loop-j.invariant in
    let fits : 2 * c.loop-j.all + c.args.src / 2 ^ c.table_entry.result % 2 < 2 ^ 64 = omega arith in
    search rules

pub loop-j-preserved : goal.loop-j-preserved
loop-j-preserved c = entries_more 8 c.args.src c.args.mask c.loop-j.j c.table_entry.result c.loop-j.all c.loop-j-test.true c.loop-j.auto.j c.loop-j.invariant c.table_entry.ensures

pub overflow_shl-result : goal.overflow_shl-result
overflow_shl-result c = let small = entry_small c.args.mask 8 c.table_entry-2.result c.table_entry-2.ensures in omega arith

pub overflow_sub-result : goal.overflow_sub-result
overflow_sub-result c =
    let small = entry_small c.args.mask 8 c.table_entry-2.result c.table_entry-2.ensures in
    let one = one_shl c.table_entry-2.result 64 (omega arith) in
    omega (arith, pow_pos c.table_entry-2.result)

pub returns : goal.returns
returns c =
    let none : c.loop-j.j ≡ 0 = omega arith in
    entries_all c.args.src c.args.mask c.loop-j.all c.table_entry-2.result (c.loop-j.invariant ∙ ap (entries 8 c.args.src c.args.mask) none) c.table_entry-2.ensures
