use Rattle.std.proofs.Common.{ℕ, List, ◌++◌, string_bytes, codes, ap, ◌∙◌, rules}
use Rattle.clockworks.specs.Meaning.{Adds}
use Rattle.clockworks.proofs.Writing.{adds_more}
use Rattle.clocks.specs.declared.answers.Asked.TheVariants.{Many}
use Rattle.console.specs.Answers.{answer_text}
use Rattle.earliest.proofs.lines.write_many.Goals as goal

pub returns : goal.returns
returns c =
    let end : Adds (string_bytes c.write_answer.new.text) (codes "\n") (string_bytes c.write.new.self) = search rules in
    (adds_more c.in_ok-write_answer.ensures end).longer
    ∙ ap (λ (l : List ℕ). l ++ (answer_text c.args.kinds Many ++ codes "\n")) c.new-text.ensures.bytes
