-- An answer as numbers.
use Rattle.std.specs.Prelude.{◌≡◌, ℕ, List}
use Rattle.clocks.specs.declared.answers.Asked.{Asked}
use Rattle.clocks.specs.declared.answers.Asked.TheVariants.{At, After, Never, NoWork, NoPlace, Many, Few}
use Rattle.clocks.specs.Asked.{AskedPost}
use Rattle.c_interface.specs.declared.replies.Reply.{Reply}

abbrev pub reply_of : Asked → Reply
reply_of (At n) = record { kind = 1; time = n }
reply_of (After n) = record { kind = 2; time = n }
reply_of Never = record { kind = 3; time = 0 }
reply_of Many = record { kind = 4; time = 0 }
reply_of Few = record { kind = 5; time = 0 }
reply_of NoWork = record { kind = 6; time = 0 }
reply_of NoPlace = record { kind = 7; time = 0 }

-- different answers are different replies
abbrev pub OneReply : Type 0
OneReply = (x y : Asked) → reply_of x ≡ reply_of y → x ≡ y

-- the reply is that of an answer, which keeps the promise of `ask`
abbrev pub RepliedTo : List ℕ → ℕ → ℕ → ℕ → Reply → Type 0
RepliedTo row position kinds lent reply =
    (asked : Asked) × (reply ≡ reply_of asked) × AskedPost row position kinds lent asked
