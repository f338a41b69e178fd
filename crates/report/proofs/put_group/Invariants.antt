-- Of the group's lines, those of the pairs that are left are to come.
-- Assumes nothing.
use Rattle.std.proofs.Common.{length, drop}
use Rattle.std.specs.List.{zip}
use Rattle.kit.specs.Kit.{kinds}
use Rattle.print.proofs.LeftLaws.{Left}
use Rattle.report.specs.Answer.{group_lines}
use Rattle.report.proofs.GroupLaws.{pair_lines}
use Rattle.report.proofs.put_group.Given as goal

abbrev pub invariant-loop-kind : goal.invariant-loop-kind
invariant-loop-kind l =
    (goal.iterator-loop-kind).can_next l.kind-iterator × (goal.iterator-loop-kind).is_finite l.kind-iterator
    × Left l.initial.page (group_lines (kinds l.fn.want) l.fn.places) (pair_lines (drop (length l.yielded) (zip (kinds l.fn.want) l.fn.places))) l.page
