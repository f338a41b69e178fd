-- Answers computed.
-- Assumes nothing.
use mathlib.Core.Path.{◌≡◌, refl}
use mathlib.Core.Bool.{true}
use mathlib.Core.List.{List, [], ◌∷◌, map}
use Prim.Native.Nat.{ℕ}
use Prim.Native.String.{String}
use native.Mathlib.Decide.{dec_le, dec_lt}
use Rattle.verdict.specs.Families.{family_in}
use Rattle.kit.specs.Kit.{kinds, kinds_from}
use Rattle.found.specs.Search.{refused}
use Rattle.found.specs.declared.Found.{Found}
use Rattle.lines.specs.Text.{ascii, decimal, width, width_in}
use Rattle.report.specs.Answer.{group_lines, found_lines, stopped_lines, refused_lines, answer_lines}
use Rattle.report.specs.Distance.{root_in, root_of}

-- places 0 and 1 of harbour H
abbrev group : ℕ → ℕ → ℕ → Found
group code squared steps = record { code = code; at = 0; places = 0 ∷ 1 ∷ 0 ∷ 0 ∷ 0 ∷ 0 ∷ 0 ∷ 0 ∷ []; squared = squared; steps = steps; known = true }

-- what a search gave, and the lines that are printed for it; S14 is the first
abbrev soundings : List ((Found × ℕ) × String)
soundings =
    ((group 0 25 7, 3), "answer=found\nsquared=25\ndistance=5\nsteps=7\nneed=0\nplace=0\nneed=1\nplace=1\nend=answer\n")
    ∷ ((group 0 8000000000000 4294967295, 9223372036854775808), "answer=found\nsquared=8000000000000\ndistance=2828427\nsteps=4294967295\nneed=63\nplace=0\nend=answer\n")
    ∷ ((refused 31 0, 32), "answer=none\nsteps=0\nend=answer\n")
    ∷ ((group 32 25 6, 3), "answer=spent\nsteps=6\nend=answer\n")
    ∷ ((refused 1 0, 0), "answer=refused\ncode=1\nfrom=query\nat=0\nend=answer\n")
    ∷ ((refused 12 4095, 3), "answer=refused\ncode=12\nfrom=table\nat=4095\nend=answer\n")
    ∷ ((refused 24 2, 3), "answer=refused\ncode=24\nfrom=tree\nat=2\nend=answer\n")
    ∷ ((refused 33 0, 3), "answer=refused\ncode=33\nfrom=search\nat=0\nend=answer\n")
    ∷ ((refused 51 10, 3), "answer=refused\ncode=51\nfrom=sheet\nat=10\nend=answer\n")
    ∷ ((refused 55 0, 3), "answer=refused\ncode=55\nfrom=room\nat=0\nend=answer\n")
    ∷ []

sounded : map (λ w. answer_lines w.0.0 w.0.1) soundings ≡ map (λ w. ascii w.1) soundings
unfolding answer_lines found_lines stopped_lines refused_lines group_lines kinds kinds_from family_in root_of root_in decimal width width_in dec_le dec_lt
sounded = refl
