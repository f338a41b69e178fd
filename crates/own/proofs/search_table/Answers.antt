use Rattle.std.proofs.Common.{sym, subst, ◌∙◌}
use Rattle.groups.specs.Members.{Passes}
use Rattle.own.proofs.BuiltLaws.{built_sound}
use Rattle.own.proofs.search_table.Goals as goal

pub search_over-requires : goal.search_over-requires
search_over-requires c = subst (Passes c.args.t.now) (sym (c.tree.ensures ∙ c.build-b.ensures.tree_after)) (built_sound c.args.t.now c.requires)
