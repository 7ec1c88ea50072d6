-- Two answers to one call are equal, and so is every byte or word that they wrote.
--
--   write_determined, read_determined     of the writer and of the reader
use mathlib.Core.Path.{◌≡◌, sym, ap, ◌∙◌}
use mathlib.Core.List.{List}
use Prim.Native.Nat.{ℕ}
use Rattle.refusal.specs.Refusal.{Outcome}
use Rattle.refusal.proofs.Outcomes.{never}
use Rattle.sheet.specs.Answers.{Contents, unread, ReadsSheet, WritesSheet}
use Rattle.sheet.specs.Answers as of

-- the answer and every byte of the sheet are determined
pub write_determined : {w : ℕ} {xs b c d : List ℕ} {o p : Outcome} → WritesSheet w xs b c o → WritesSheet w xs b d p → (o ≡ p) × (c ≡ d)
write_determined (of.refused e a q) (of.refused f d r) = (q ∙ sym e ∙ f ∙ sym r, a ∙ sym d)
write_determined (of.refused e a q) (of.made f d r) = absurd (never e f)
write_determined (of.made e a q) (of.refused f d r) = absurd (never f e)
write_determined (of.made e a q) (of.made f d r) = (q ∙ sym r, a ∙ sym d)

-- the answer and every word of the area are determined
pub read_determined : {b xs ys zs : List ℕ} {x y : Contents} → ReadsSheet b xs ys x → ReadsSheet b xs zs y → (x ≡ y) × (ys ≡ zs)
read_determined (of.short e a q) (of.short f d r) = (q ∙ ap unread (sym e ∙ f) ∙ sym r, a ∙ sym d)
read_determined (of.short e a q) (of.refused f g d r) = absurd (never e f)
read_determined (of.short e a q) (of.taken f g d r) = absurd (never e f)
read_determined (of.refused e h a q) (of.short f d r) = absurd (never f e)
read_determined (of.refused e h a q) (of.refused f g d r) = (q ∙ ap unread (sym h ∙ g) ∙ sym r, a ∙ sym d)
read_determined (of.refused e h a q) (of.taken f g d r) = absurd (never h g)
read_determined (of.taken e h a q) (of.short f d r) = absurd (never f e)
read_determined (of.taken e h a q) (of.refused f g d r) = absurd (never g h)
read_determined (of.taken e h a q) (of.taken f g d r) = (q ∙ sym r, a ∙ sym d)
