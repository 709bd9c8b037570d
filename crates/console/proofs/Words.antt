-- The words that an iterator gives, said of the text that they stand in.
use Rattle.std.proofs.Common.{◌≡◌, ℕ, ◌+◌, ◌-◌, ◌<◌, ◌≤◌, List, [], ◌∷◌, length, drop, Some, None, Option, sym, ap, ◌∙◌, subst, arith, length-drop}
use Rattle.std.specs.Iterator.{Yields, SkipsThenYields}
use Rattle.std.specs.Option.{unwrap_or}
use Rattle.std.proofs.lemmas.List.{length-take-le}
use Rattle.console.specs.declared.numbers.Word.{Word}
use Rattle.console.specs.declared.numbers.Words.{Words}
use Rattle.console.specs.Rows.{GivesWord, NextWord, word_text}

pub given : (bytes : List ℕ) (s : Words) (w : Word) (t : Words) → s.bytes.now ≡ bytes → GivesWord s (Some w) t → NextWord bytes s.at w.start t.at × (w.start < length bytes) × (w.text.now ≡ word_text bytes w.start t.at) × (t.bytes.now ≡ bytes)
given bytes s w t e h =
    subst (λ (b : List ℕ). NextWord b s.at w.start t.at × (w.start < length b) × (w.text.now ≡ word_text b w.start t.at) × (t.bytes.now ≡ b)) e h

passed : (bytes : List ℕ) (s : Words) (ws : List Word) (t : Words) → s.bytes.now ≡ bytes → Yields GivesWord s ws t → t.bytes.now ≡ bytes
passed bytes s [] t e h = sym (ap (λ (v : Words). v.bytes.now) h) ∙ e
passed bytes s (w ∷ ws) t e h = passed bytes h.0 ws t (given bytes s w h.0 e h.1).3 h.2

-- a word, or what stands for none, ends within the text
ends : (bytes : List ℕ) (s : Words) (r : Option Word) (t : Words) (none : Word) → s.bytes.now ≡ bytes → GivesWord s r t → none.start + length none.text.now ≤ length bytes → (unwrap_or r none).start + length (unwrap_or r none).text.now ≤ length bytes
ends bytes s None t none e h le = le
ends bytes s (Some w) t none e h le =
    let is = given bytes s w t e h in
    let within = is.0.ends.within in
    let after = is.0.ends.after in
    let left = length-drop w.start bytes in
    let long = ap length is.2 ∙ length-take-le (t.at - w.start) (drop w.start bytes) (omega arith) in
    omega arith

pub nth_ends : (bytes : List ℕ) (s : Words) (n : ℕ) (r : Option Word) (t : Words) (none : Word) → s.bytes.now ≡ bytes → SkipsThenYields GivesWord s n r t → none.start + length none.text.now ≤ length bytes → (unwrap_or r none).start + length (unwrap_or r none).text.now ≤ length bytes
nth_ends bytes s n r t none e h le = ends bytes h.1.0 r t none (passed bytes s h.0 h.1.0 e h.1.1) h.1.2 le
