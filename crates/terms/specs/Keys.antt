-- Term keys and their texts.
use Rattle.std.specs.Prelude.{◌≡◌, ℕ, suc, cond, ◌↔◌, List, [], ◌∷◌, length, take, Some, None, Ok, Err, Option, Result, ◌==◌, nat_le}
use Rattle.std.specs.Option.{option_map}
use Rattle.faults.specs.Refusals.{fault}
use Rattle.faults.specs.declared.Fault.{Fault}
use Rattle.faults.specs.declared.Reason.TheVariants.{KeyLength, KeyZeroByte}
use Rattle.terms.specs.declared.key.Term.{Term}

-- how many bytes a key has at the most
abbrev pub longest : ℕ
longest = 32

-- the text of a key
abbrev pub text_of : Term → List ℕ
text_of t = take t.len t.bytes

-- the place of the first zero byte
abbrev pub first_zero : List ℕ → Option ℕ
first_zero [] = None
first_zero (b ∷ bs) = let later = option_map suc (first_zero bs) in cond (b == 0) (Some 0) later

abbrev pub zero_fault : Option ℕ → Option Fault
zero_fault None = None
zero_fault (Some p) = Some (fault KeyZeroByte p 0)

-- why a text is no key: it has not 1 to 32 bytes, then one of them is zero; nothing where it is one
abbrev pub key_fault : List ℕ → Option Fault
key_fault text =
    let length-fault = Some (fault KeyLength (length text) 0) in
    cond (nat_le 1 (length text)) (cond (nat_le (length text) longest) (zero_fault (first_zero text)) length-fault) length-fault

-- what comes of making a key from a text: the key of just that text, or the refusal
abbrev pub Makes : List ℕ → Result Term Fault → Type 0
Makes text (Ok t) = (key_fault text ≡ None) × (text_of t ≡ text)
Makes text (Err f) = key_fault text ≡ Some f

-- keys are equal exactly where their texts are
abbrev pub EqualByText : Type 0
EqualByText = (s t : Term) → (text_of s ≡ text_of t) ↔ (s ≡ t)
