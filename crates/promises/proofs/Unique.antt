-- For every call that a user makes: it is answered whatever it is given, any two results that its contract allows are equal, and so is all that was lent, afterwards.
-- `Pre` and `Post` are the contracts as the toolchain reads them from the sources. Assumes nothing.
use mathlib.Core.Path.{◌≡◌, refl, sym, ap, ◌∙◌}
use mathlib.Core.List.{List}
use Prim.Native.Nat.{ℕ}
use Rattle.plane.proofs.RootLaws.{root_unique}
use Rattle.tree.specs.Tree.{Tree}
use Rattle.tree.specs.Lent.{shape, tree}
use Rattle.verdict.specs.Rules.{Verdict, said}
use Rattle.build.specs.Lent.{lent, left}
use Rattle.build.specs.Room as build-specs
use Rattle.rows.specs.Sheet.{asked}
use Rattle.sheet.specs.Write as write-specs
use Rattle.promises.proofs.SaidLaws.{told_one, check_one, built_one, written_one}
use Rattle.plane.proofs.squared.Reads as squared
use Rattle.plane.proofs.root.Reads as root
use Rattle.verdict.proofs.family.Reads as family
use Rattle.inspect.proofs.check.Reads as check
use Rattle.build.proofs.build.Reads as build
use Rattle.search.proofs.search.Reads as search
use Rattle.scan.specs.Lent as sheet-lent
use Rattle.scan.proofs.ScanLaws.{told_one as sheet_one}
use Rattle.sheet.proofs.write.Reads as write
use Rattle.sheet.proofs.read.Reads as read
use Rattle.answer.proofs.lines.Reads as lines
use Rattle.reply.proofs.reply.Reads as reply
use Rattle.promises.specs.Settles.{AsksNothing, Settles, nothing}

-- the squared distance of two points
pub squared_total : AsksNothing squared.Pre
squared_total κs a = tt

pub squared_settled : Settles nothing squared.Post
squared_settled κs a r r' b b' h k = (told_one r r' (h ∙ sym k), refl)

-- the whole-number root
pub root_total : AsksNothing root.Pre
root_total κs a = tt

pub root_settled : Settles nothing root.Post
root_settled κs a r r' b b' h k = (root_unique h k, refl)

-- the family of a refusal number
pub family_total : AsksNothing family.Pre
family_total κs a = tt

pub family_settled : Settles nothing family.Post
family_settled κs a r r' b b' h k = (h ∙ sym k, refl)

-- the check of a tree
pub check_total : AsksNothing check.Pre
check_total κs a = tt

pub check_settled : Settles nothing check.Post
check_settled κs a r r' b b' h k = (check_one r r' (h ∙ sym k), refl)

-- the search
pub search_total : AsksNothing search.Pre
search_total κs a = tt

pub search_settled : Settles nothing search.Post
search_settled κs a r r' b b' h k = (h ∙ sym k, refl)

-- the builder: nine columns are lent, which a tree collects
pub build_total : AsksNothing build.Pre
build_total κs a = tt

pub build_settled : Settles (λ b. left b.1.0) build.Post
build_settled κs a r r' b b' h k =
    let v : said r ≡ said r' = h.0 ∙ sym k.0 in
    let w = h.1 ∙ ap (λ (u : Verdict). build-specs.afterwards u.code a.0.now (lent a.1.0)) v ∙ sym k.1 in (
      built_one r r' v (ap (λ (z : Tree). (z.shape.nodes, z.shape.listed)) w),
      ap (λ (z : Tree). tree (shape 0 0 z.shape.level z.shape.start z.shape.count z.shape.entries) z.sides z.kits) w,
    )

-- the writer: a buffer is lent
pub write_total : AsksNothing write.Pre
write_total κs a = tt

pub write_settled : Settles (λ b. b.1.1.1.0.now) write.Post
write_settled κs a r r' b b' h k =
    let v : said r ≡ said r' = h.0 ∙ sym k.0 in
    let w = h.1 ∙ ap (λ (u : Verdict). write-specs.afterwards u.code (asked a.0.now a.1.0 a.1.1.0) a.1.1.1.0.now) v ∙ sym k.1 in
    (written_one r r' v (ap (λ (z : ℕ × List ℕ). z.0) w), ap (λ (z : ℕ × List ℕ). z.1) w)

-- the reader: three columns are lent
pub read_total : AsksNothing read.Pre
read_total κs a = tt

pub read_settled : Settles (λ b. sheet-lent.left b.1.0) read.Post
read_settled κs a r r' b b' h k = (sheet_one r r' (h.0 ∙ sym k.0), h.1 ∙ sym k.1)

-- the lines of an answer: a buffer is lent
pub lines_total : AsksNothing lines.Pre
lines_total κs a = tt

pub lines_settled : Settles (λ b. b.1.1.0.now) lines.Post
lines_settled κs a r r' b b' h k = (h.0 ∙ sym k.0, h.1 ∙ sym k.1)

-- what the program prints: a buffer is lent
pub reply_total : AsksNothing reply.Pre
reply_total κs a = tt

pub reply_settled : Settles (λ b. b.1.0.now) reply.Post
reply_settled κs a r r' b b' h k = (h.0 ∙ sym k.0, h.1 ∙ sym k.1)
