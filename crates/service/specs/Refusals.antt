-- How a refusal is told.
use Rattle.std.specs.Prelude.{ℕ, List, codes}
use Rattle.faults.specs.Sentences.{sentence}
use Rattle.service.specs.declared.refusal.Refusal.{Refusal}
use Rattle.service.specs.declared.refusal.Refusal.TheVariants.{Fault, NoMemory}

-- a fault by its own sentence
abbrev pub told : Refusal → List ℕ
told (Fault f) = sentence f
told NoMemory = codes "there is not enough memory"
