use mathlib.Core.Path.{◌≡◌, ap₂, ◌∙◌}
use mathlib.Core.List.{List, [], ◌∷◌, ◌++◌}
use Prim.Native.Nat.{ℕ, ◌+◌, ◌*◌, ◌-◌, ◌/◌, ◌%◌}
use native.Mathlib.Omega.{arith}
use lib.ListN.{take, drop}
use Rattle.sheet.specs.Sheet.{bytes}
use Rattle.sheet.specs.Steps.{put_word}
use Rattle.sheet_writer.proofs.put_word.Goals as goal

pub returns : goal.returns
unfolding put_word bytes
returns c =
    let a = c.args in
    let four : a.j * 4 + 4 - a.j * 4 ≡ 4 = omega arith in
    let third : a.w / 65536 % 256 ≡ a.w / 256 / 256 % 256 = omega arith in
    let fourth : a.w / 16777216 % 256 ≡ a.w / 256 / 256 / 256 % 256 = omega arith in
    let written : c.copy_from_slice.new.self ≡ bytes a.w = c.copy_from_slice.ensures.after ∙ c.to_le_bytes.ensures ∙ ap₂ (λ (k n : ℕ). a.w % 256 ∷ a.w / 256 % 256 ∷ k ∷ n ∷ []) third fourth in
    ap₂ (λ (n : ℕ) (l : List ℕ). take (a.j * 4) a.r.now ++ (l ++ drop n (drop (a.j * 4) a.r.now))) four written
