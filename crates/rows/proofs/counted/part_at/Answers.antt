-- The part begins behind its number of elements.
use Rattle.std.proofs.Common.{◌≡◌, ℕ, ◌+◌, ◌*◌, ◌∷◌, ◌++◌, length, drop, sym, ap, ◌∙◌, arith}
use native.Mathlib.Nat.{sub-zero}
use Rattle.std.proofs.lemmas.List.{take_at, take_rest}
use Rattle.rows.proofs.Parts.{head_is, tail_is, counted}
use Rattle.rows.proofs.counted.part_at.Goals as goal

pub returns-clause-part : goal.returns-clause-part
returns-clause-part c =
    λ k ws rest e l.
    let row = c.args.row.now in
    let at = c.args.at in
    let whole : drop at row ≡ c.in_ok-count.count.now ∷ c.in_ok-count.rest.now =
    sym (take_rest row at) ∙ sym c.in_ok-get.ensures.lookup.0.2 ∙ c.in_ok-count.ensures.cases.0 in
    let first : c.in_ok-count.count.now ≡ k = head_is _ k _ (ws ++ rest) (sym whole ∙ e) in
    let others : c.in_ok-count.rest.now ≡ ws ++ rest = tail_is _ k _ (ws ++ rest) (sym whole ∙ e) in
    let size : c.in_ok-length.length ≡ length ws =
    c.in_ok-length.ensures.1 ∙ ap (λ (n : ℕ). c.args.words_each * n) first ∙ sym l in
    let end = at + 1 + c.in_ok-length.length in
    let part = counted row at k end ws rest e (omega (arith, size)) in
    let same : c.in_ok-words.words.now ≡ ws =
    c.in_ok-words.ensures.lookup.0.2 ∙ rw (others, sub-zero) (take_at ws rest c.in_ok-length.length (sym size)) in
    (same, part.1, part.2)
