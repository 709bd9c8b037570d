-- A row of numbers as text: words of digits with white space between them.
use Rattle.std.specs.Prelude.{◌≡◌, ℕ, ◌<◌, ◌≤◌, Bool, true, false, ◌&&◌, ◌||◌, List, [], ◌∷◌, ◌++◌, length, Some, None, Option, ◌==◌, nat_le, slice_index, slice_range}
use Rattle.console.specs.declared.numbers.Word.{Word}
use Rattle.console.specs.declared.numbers.Words.{Words}
use Rattle.console.specs.declared.numbers.Mistake.{Mistake}
use Rattle.console.specs.declared.numbers.Mistake.TheVariants.{Memory, NoNumber, TooMany}
use Rattle.console.specs.Numbers.{number_of}

-- a blank, or one of the characters from tab to carriage return
abbrev pub blank : ℕ → Bool
blank b = b == 32 || (nat_le 9 b && nat_le b 13)

abbrev pub AllBlank : List ℕ → ℕ → ℕ → Bool → Type 0
AllBlank bytes from to is = (k : ℕ) → from ≤ k → k < to → blank (slice_index bytes k) ≡ is

-- the first place from `from` on where a byte is blank, or is not; or else the end
pub record FirstBlank (bytes : List ℕ) (from : ℕ) (is other : Bool) (place : ℕ) : Type 0 where
  pub after : from ≤ place
  pub within : place ≤ length bytes
  pub before : AllBlank bytes from place other
  pub here : place < length bytes → blank (slice_index bytes place) ≡ is

-- the next word from `from` on
pub record NextWord (bytes : List ℕ) (from start stop : ℕ) : Type 0 where
  pub begins : FirstBlank bytes from false true start
  pub ends : FirstBlank bytes start true false stop

abbrev pub word_text : List ℕ → ℕ → ℕ → List ℕ
word_text bytes start stop = slice_range bytes start stop

-- the next word, behind which the others are; or none, where all that is left is blank
abbrev pub GivesWord : Words → Option Word → Words → Type 0
GivesWord s None t = AllBlank s.bytes.now s.at (length s.bytes.now) true
GivesWord s (Some word) t =
    NextWord s.bytes.now s.at word.start t.at × (word.start < length s.bytes.now) × (word.text.now ≡ word_text s.bytes.now word.start t.at)
    × (t.bytes.now ≡ s.bytes.now)

-- the words up to a place are these numbers
pub data Numbered (bytes : List ℕ) : ℕ → List ℕ → Type 0 where
  no_number : Numbered bytes 0 []
  one_more : (from start stop n : ℕ) (ns : List ℕ)
      → Numbered bytes from ns
      → NextWord bytes from start stop
      → start < length bytes
      → number_of (word_text bytes start stop) ≡ Some n
      → Numbered bytes stop (ns ++ n ∷ [])

-- all words are these numbers
pub record RowIs (bytes ns : List ℕ) : Type 0 where
  pub end : ℕ
  pub numbered : Numbered bytes end ns
  pub rest : AllBlank bytes end (length bytes) true

-- after so many numbers stands another word
pub record WordAfter (bytes : List ℕ) (count : ℕ) : Type 0 where
  pub end : ℕ
  pub numbers : List ℕ
  pub numbered : Numbered bytes end numbers
  pub many : length numbers ≡ count
  pub start : ℕ
  pub stop : ℕ
  pub word : NextWord bytes end start stop
  pub there : start < length bytes

-- why a text is no row: a word that is no number, or too many words
abbrev pub RowRefused : List ℕ → Mistake → Type 0
RowRefused bytes Memory = Unit {0}
RowRefused bytes (NoNumber count) = (w : WordAfter bytes count) × (number_of (word_text bytes w.start w.stop) ≡ None)
RowRefused bytes TooMany = WordAfter bytes 16384
