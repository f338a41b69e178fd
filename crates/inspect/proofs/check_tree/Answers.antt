use Rattle.std.proofs.lemmas.Result.{err_from_is_err_and}
use Rattle.verdict.proofs.SaidLaws.{none_refused}
use Rattle.tree.specs.Rules.{rules22}
use Rattle.inspect.proofs.PartLaws.{columns, room, in_counts, in_runs, runs, in_names, named, named_few, named_kit, in_distinct, in_boxes, in_kits, same_runs}
use Rattle.inspect.proofs.check_tree.Goals as goal

pub returns-in_err-counted : goal.returns-in_err-counted
returns-in_err-counted c = let p = err_from_is_err_and c.from_residual.result c.from_residual.ensures.1 in rw (p.1, p.2) (in_counts c.args.t.now c.args.tree.now _ (rw c.places-places.ensures at c.in_err-counted.ensures))

pub returns-in_err-runs : goal.returns-in_err-runs
returns-in_err-runs c = let p = err_from_is_err_and c.from_residual-in_err-runs.result c.from_residual-in_err-runs.ensures.1 in rw (p.1, p.2) (in_runs c.args.t.now c.args.tree.now (rw c.places-places.ensures at c.in_ok-counted.ensures) _ (same_runs c.shape-s.ensures (c.in_err-runs.ensures c.shape-s.result.now.entries)))

pub returns-in_err-names : goal.returns-in_err-names
returns-in_err-names c = let p = err_from_is_err_and c.from_residual-in_err-names.result c.from_residual-in_err-names.ensures.1 in rw (p.1, p.2) (in_names c.args.t.now c.args.tree.now (rw c.places-places.ensures at c.in_ok-counted.ensures) (same_runs c.shape-s.ensures (c.in_ok-runs.ensures c.shape-s.result.now.entries)) _ (rw (c.places-places.ensures, c.shape-s.ensures) at c.in_err-names.ensures))

pub returns-in_err-distinct : goal.returns-in_err-distinct
returns-in_err-distinct c = let p = err_from_is_err_and c.from_residual-in_err-distinct.result c.from_residual-in_err-distinct.ensures.1 in rw (p.1, p.2) (in_distinct c.args.t.now c.args.tree.now (rw c.places-places.ensures at c.in_ok-counted.ensures) (same_runs c.shape-s.ensures (c.in_ok-runs.ensures c.shape-s.result.now.entries)) (rw (c.places-places.ensures, c.shape-s.ensures) at c.in_ok-names.ensures) _ (rw c.shape-s.ensures at c.in_err-distinct.ensures))

pub returns-in_err-boxes : goal.returns-in_err-boxes
returns-in_err-boxes c = let p = err_from_is_err_and c.from_residual-in_err-boxes.result c.from_residual-in_err-boxes.ensures.1 in rw (p.1, p.2) (in_boxes c.args.t.now c.args.tree.now (rw c.places-places.ensures at c.in_ok-counted.ensures) (same_runs c.shape-s.ensures (c.in_ok-runs.ensures c.shape-s.result.now.entries)) (rw (c.places-places.ensures, c.shape-s.ensures) at c.in_ok-names.ensures) (rw c.shape-s.ensures at c.in_ok-distinct.ensures) _ c.in_err-boxes.ensures)

pub runs-requires : goal.runs-requires
runs-requires c = let k = columns c.args.t.now c.args.tree.now (rw c.places-places.ensures at c.in_ok-counted.ensures) in rw c.shape-s.ensures (k.few, (k.level, (k.start, k.count)))

pub names-requires-clause-columns : goal.names-requires-clause-columns
names-requires-clause-columns c = rw c.shape-s.ensures (columns c.args.t.now c.args.tree.now (rw c.places-places.ensures at c.in_ok-counted.ensures))

pub names-requires-clause-all_hold : goal.names-requires-clause-all_hold
names-requires-clause-all_hold c = none_refused (rules22 c.shape-s.result.now) (c.in_ok-runs.ensures c.shape-s.result.now.entries)

pub distinct-requires-clause-columns : goal.distinct-requires-clause-columns
distinct-requires-clause-columns c = rw c.shape-s.ensures (columns c.args.t.now c.args.tree.now (rw c.places-places.ensures at c.in_ok-counted.ensures))

pub distinct-requires-clause-all_hold : goal.distinct-requires-clause-all_hold
distinct-requires-clause-all_hold c = none_refused (rules22 c.shape-s.result.now) (c.in_ok-runs.ensures c.shape-s.result.now.entries)

pub boxes-requires-clause-columns : goal.boxes-requires-clause-columns
boxes-requires-clause-columns c = columns c.args.t.now c.args.tree.now (rw c.places-places.ensures at c.in_ok-counted.ensures)

pub boxes-requires-clause-all_hold : goal.boxes-requires-clause-all_hold
boxes-requires-clause-all_hold c = runs c.args.t.now c.args.tree.now (rw c.places-places.ensures at c.in_ok-counted.ensures) (same_runs c.shape-s.ensures (c.in_ok-runs.ensures c.shape-s.result.now.entries))

pub kit_words-requires-clause-columns : goal.kit_words-requires-clause-columns
kit_words-requires-clause-columns c = columns c.args.t.now c.args.tree.now (rw c.places-places.ensures at c.in_ok-counted.ensures)

pub kit_words-requires-clause-all_hold : goal.kit_words-requires-clause-all_hold
kit_words-requires-clause-all_hold c = runs c.args.t.now c.args.tree.now (rw c.places-places.ensures at c.in_ok-counted.ensures) (same_runs c.shape-s.ensures (c.in_ok-runs.ensures c.shape-s.result.now.entries))

pub distinct-requires-clause-holds : goal.distinct-requires-clause-holds
distinct-requires-clause-holds c = rw c.shape-s.ensures (named_few c.args.t.now c.args.tree.now (rw c.places-places.ensures at c.in_ok-counted.ensures) (same_runs c.shape-s.ensures (c.in_ok-runs.ensures c.shape-s.result.now.entries)) (rw (c.places-places.ensures, c.shape-s.ensures) at c.in_ok-names.ensures) c.requires)

pub boxes-requires-clause-holds : goal.boxes-requires-clause-holds
boxes-requires-clause-holds c = named c.args.t.now c.args.tree.now (rw c.places-places.ensures at c.in_ok-counted.ensures) (same_runs c.shape-s.ensures (c.in_ok-runs.ensures c.shape-s.result.now.entries)) (rw (c.places-places.ensures, c.shape-s.ensures) at c.in_ok-names.ensures)

pub kit_words-requires-clause-holds : goal.kit_words-requires-clause-holds
kit_words-requires-clause-holds c = named_kit c.args.t.now c.args.tree.now (rw c.places-places.ensures at c.in_ok-counted.ensures) (same_runs c.shape-s.ensures (c.in_ok-runs.ensures c.shape-s.result.now.entries)) (rw (c.places-places.ensures, c.shape-s.ensures) at c.in_ok-names.ensures) c.requires

pub boxes-requires-clause-x_lo_len : goal.boxes-requires-clause-x_lo_len
boxes-requires-clause-x_lo_len c = (room c.args.t.now c.args.tree.now (rw c.places-places.ensures at c.in_ok-counted.ensures)).room.x_lo

pub boxes-requires-clause-x_hi_len : goal.boxes-requires-clause-x_hi_len
boxes-requires-clause-x_hi_len c = (room c.args.t.now c.args.tree.now (rw c.places-places.ensures at c.in_ok-counted.ensures)).room.x_hi

pub boxes-requires-clause-y_lo_len : goal.boxes-requires-clause-y_lo_len
boxes-requires-clause-y_lo_len c = (room c.args.t.now c.args.tree.now (rw c.places-places.ensures at c.in_ok-counted.ensures)).room.y_lo

pub boxes-requires-clause-y_hi_len : goal.boxes-requires-clause-y_hi_len
boxes-requires-clause-y_hi_len c = (room c.args.t.now c.args.tree.now (rw c.places-places.ensures at c.in_ok-counted.ensures)).room.y_hi

pub kit_words-requires-clause-kits_len : goal.kit_words-requires-clause-kits_len
kit_words-requires-clause-kits_len c = (room c.args.t.now c.args.tree.now (rw c.places-places.ensures at c.in_ok-counted.ensures)).room.kits

pub returns : goal.returns
returns c = in_kits c.args.t.now c.args.tree.now (rw c.places-places.ensures at c.in_ok-counted.ensures) (same_runs c.shape-s.ensures (c.in_ok-runs.ensures c.shape-s.result.now.entries)) (rw (c.places-places.ensures, c.shape-s.ensures) at c.in_ok-names.ensures) (rw c.shape-s.ensures at c.in_ok-distinct.ensures) c.in_ok-boxes.ensures c.kit_words.ensures
