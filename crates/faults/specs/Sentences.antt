-- What a refusal says to its reader: its number and layer, the rule that was broken, and where.
use Rattle.std.specs.Prelude.{ℕ, cond, List, [], ◌++◌, codes, decimal, ◌==◌}
use Rattle.faults.specs.Refusals.{number_of}
use Rattle.faults.specs.declared.Fault.{Fault}
use Rattle.faults.specs.declared.Layer.{Layer}
use Rattle.faults.specs.declared.Layer.TheVariants.{Key, File, Index, Job}
use Rattle.faults.specs.declared.Reason.{Reason}
use Rattle.faults.specs.declared.Reason.TheVariants.{KeyLength, KeyZeroByte, SlotAboveLimit, ListCount, ParentNotSmaller, TooDeep, TooManyChildren, TooManyEntries, KeyOutOfOrder, IndexMemoryShort, NoSuchList, NoSuchPlace, NotSieved, SlotLimits, KeyLimits, FileOpening, FieldIncomplete, FieldNotAllowed, FieldLength, FieldNumber, LoadMemoryShort, SheetTooLong}

abbrev pub layer_name : Layer → List ℕ
layer_name Key = codes "key"
layer_name File = codes "file"
layer_name Index = codes "index"
layer_name Job = codes "job"

-- the rule that was broken
abbrev pub rule_of : Reason → List ℕ
rule_of KeyLength = codes "a term has 1 to 32 bytes"
rule_of KeyZeroByte = codes "a term holds no zero byte"
rule_of SlotAboveLimit = codes "a slot is at most 63"
rule_of ListCount = codes "there are 1 to 128 lists"
rule_of ParentNotSmaller = codes "a list has a smaller number than its children"
rule_of TooDeep = codes "a list lies at most 8 edges below the root"
rule_of TooManyChildren = codes "a list has at most four children"
rule_of TooManyEntries = codes "there are at most 40,000 entries"
rule_of KeyOutOfOrder = codes "a key is not below the one before it in its list"
rule_of IndexMemoryShort = codes "index memory is too small"
rule_of NoSuchList = codes "there is no such list"
rule_of NoSuchPlace = codes "there is no such place"
rule_of NotSieved = codes "the lists are not those of a sieve"
rule_of SlotLimits = codes "slots run from a smaller to a larger, which is at most 63"
rule_of KeyLimits = codes "the low key is above the high key"
rule_of FileOpening = codes "this does not open as a tree file"
rule_of FieldIncomplete = codes "there is no complete field"
rule_of FieldNotAllowed = codes "this field may not come here"
rule_of FieldLength = codes "the length does not suit this field"
rule_of FieldNumber = codes "the number in this field is wrong"
rule_of LoadMemoryShort = codes "the memory to load into is too small"
rule_of SheetTooLong = codes "a sheet has at most 65,535 bytes"

-- words and a number, or two of each
abbrev pub one : List ℕ → ℕ → List ℕ
one words n = words ++ decimal n

abbrev pub two : List ℕ → ℕ → List ℕ → ℕ → List ℕ
two words n more m = words ++ (decimal n ++ (more ++ decimal m))

-- where a key was refused; inside a file its field is named too
abbrev pub key_places : List ℕ → ℕ → ℕ → List ℕ
key_places words first second = cond (second == 0) (one words first) (two words first (codes ", in the field at byte ") second)

-- which memory is too small for what it would hold
abbrev pub index_memory : ℕ → ℕ → List ℕ
index_memory which needed =
    cond (which == 1) (one (codes " for the keys, which take ") needed)
    (cond (which == 2) (one (codes " for the rows, which take ") needed) (one (codes " for the payloads, which take ") needed))

abbrev pub load_memory : ℕ → ℕ → List ℕ
load_memory which needed =
    cond (which == 1) (one (codes " for the lists, which take ") needed) (one (codes " for the entries, which take ") needed)

-- where it was broken: what the two places count, by the reason
abbrev pub places_of : Reason → ℕ → ℕ → List ℕ
places_of KeyLength first second = key_places (codes ", not ") first second
places_of KeyZeroByte first second = key_places (codes ", as this one at its place ") first second
places_of SlotAboveLimit first second = one (codes ", not as that of point ") first
places_of ListCount first second = one (codes ", not ") first
places_of ParentNotSmaller first second = two (codes ", not as list ") first (codes " with the parent ") second
places_of TooDeep first second = one (codes ", not as list ") first
places_of TooManyChildren first second = one (codes ", too many with list ") first
places_of TooManyEntries first second = one (codes ", passed in list ") first
places_of KeyOutOfOrder first second = two (codes ", not as in list ") first (codes " at place ") second
places_of IndexMemoryShort first second = index_memory first second
places_of NoSuchList first second = one (codes ": list ") first
places_of NoSuchPlace first second = two (codes ": list ") first (codes ", place ") second
places_of NotSieved first second = []
places_of SlotLimits first second = two (codes ", not from ") first (codes " to ") second
places_of KeyLimits first second = []
places_of FileOpening first second = one (codes ", at byte ") first
places_of FieldIncomplete first second = one (codes ", at byte ") first
places_of FieldNotAllowed first second = one (codes ", at byte ") first
places_of FieldLength first second = one (codes ", at byte ") first
places_of FieldNumber first second = one (codes ", at byte ") first
places_of LoadMemoryShort first second = load_memory first second
places_of SheetTooLong first second = one (codes ", not ") first

-- the whole sentence, as "refused (18, file): this field may not come here, at byte 37"
abbrev pub sentence : Fault → List ℕ
sentence f =
    codes "refused ("
    ++ (decimal (number_of f.reason)
    ++ (codes ", "
    ++ (layer_name f.layer
    ++ (codes "): "
    ++ (rule_of f.reason
    ++ places_of f.reason f.first f.second)))))
