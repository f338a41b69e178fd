-- Each word with its limit; where a limit has no word they do not fit.
-- Assumes nothing.
use Rattle.std.proofs.Common.{◌∙◌, sym, ℕ, leb, length, arith, rules, tests}
use Rattle.std.proofs.lemmas.Iterator.{YieldsList-from_slice, YieldsList-from_zip}
use Rattle.std.proofs.lemmas.Iterator.Consumers.{YieldsList-at}
use Rattle.std.proofs.lemmas.Iterator.Search.{all_from_yields_List}
use borrow.Author.Tests.{lt-leb}
use Rattle.words.proofs.FitLaws.{fit_all, fit_short}
use Rattle.words.proofs.fits.Goals as goal

pub returns-then-limits-words : goal.returns-then-limits-words
returns-then-limits-words c =
    let words = c.args.words.now in
    let limits = c.args.limits.now in
    let pairs = YieldsList-from_zip {s = c.zip.result} (YieldsList-at c.zip.ensures.first (YieldsList-from_slice words cc)) (YieldsList-from_slice limits cc) in
    all_from_yields_List (λ (p : ℕ × ℕ). leb p.0 p.1) c.all.new.self _ c.all.result c.all.ensures.ran pairs (λ x b q k. search (rules, tests)) ∙ fit_all limits words (omega arith)

pub returns-else-limits-words : goal.returns-else-limits-words
returns-else-limits-words c =
    let words = c.args.words.now in
    let limits = c.args.limits.now in
    lt-leb (length limits) (length words) c.if-limits-words.false ∙ sym (fit_short limits words c.if-limits-words.false)
