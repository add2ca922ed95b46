-- The refusals: their numbers, their layers, and how a fault is made of them.
use Rattle.std.specs.Prelude.{ℕ}
use Rattle.faults.specs.declared.Fault.{Fault}
use Rattle.faults.specs.declared.Layer.{Layer}
use Rattle.faults.specs.declared.Layer.TheVariants.{Key, File, Index, Job}
use Rattle.faults.specs.declared.Reason.{Reason}
use Rattle.faults.specs.declared.Reason.TheVariants.{KeyLength, KeyZeroByte, SlotAboveLimit, ListCount, ParentNotSmaller, TooDeep, TooManyChildren, TooManyEntries, KeyOutOfOrder, IndexMemoryShort, NoSuchList, NoSuchPlace, NotSieved, SlotLimits, KeyLimits, FileOpening, FieldIncomplete, FieldNotAllowed, FieldLength, FieldNumber, LoadMemoryShort, SheetTooLong}

-- the number by which users know a refusal
abbrev pub number_of : Reason → ℕ
number_of KeyLength = 1
number_of KeyZeroByte = 2
number_of SlotAboveLimit = 3
number_of ListCount = 4
number_of ParentNotSmaller = 5
number_of TooDeep = 6
number_of TooManyChildren = 7
number_of TooManyEntries = 8
number_of KeyOutOfOrder = 9
number_of IndexMemoryShort = 10
number_of NoSuchList = 11
number_of NoSuchPlace = 12
number_of NotSieved = 13
number_of SlotLimits = 14
number_of KeyLimits = 15
number_of FileOpening = 16
number_of FieldIncomplete = 17
number_of FieldNotAllowed = 18
number_of FieldLength = 19
number_of FieldNumber = 20
number_of LoadMemoryShort = 21
number_of SheetTooLong = 22

-- the layer that refuses for a reason
abbrev pub layer_of : Reason → Layer
layer_of KeyLength = Key
layer_of KeyZeroByte = Key
layer_of SlotAboveLimit = Index
layer_of ListCount = Index
layer_of ParentNotSmaller = Index
layer_of TooDeep = Index
layer_of TooManyChildren = Index
layer_of TooManyEntries = Index
layer_of KeyOutOfOrder = Index
layer_of IndexMemoryShort = Index
layer_of NoSuchList = Index
layer_of NoSuchPlace = Index
layer_of NotSieved = Index
layer_of SlotLimits = Index
layer_of KeyLimits = Index
layer_of FileOpening = File
layer_of FieldIncomplete = File
layer_of FieldNotAllowed = File
layer_of FieldLength = File
layer_of FieldNumber = File
layer_of LoadMemoryShort = File
layer_of SheetTooLong = Job

-- a refusal of the reason's own layer, with its two places
abbrev pub fault : Reason → ℕ → ℕ → Fault
fault reason first second = record { reason = reason; layer = layer_of reason; first = first; second = second }

-- the same refusal with another second place
abbrev pub with_second : Fault → ℕ → Fault
with_second f second = record { reason = f.reason; layer = f.layer; first = f.first; second = second }
