-- The tree file format, by writing: a tree of term lists, and the bytes that stand for it.
use Rattle.std.specs.Prelude.{◌≡◌, ℕ, ◌/◌, ◌%◌, List, [], ◌∷◌, ◌++◌, length, None}
use Rattle.terms.specs.Keys.{key_fault}

pub record TermEntry : Type 0 where
  pub marks : ℕ
  pub text : List ℕ

-- a list with the number of its parent; lists are numbered in file order, the root is list 0
pub record TermList : Type 0 where
  pub parent : ℕ
  pub entries : List TermEntry

-- the tags: the letters L, E and Z
abbrev pub list_tag : ℕ
list_tag = 76

abbrev pub entry_tag : ℕ
entry_tag = 69

abbrev pub closing_tag : ℕ
closing_tag = 90

-- a number in four bytes, the high byte first
abbrev pub four_bytes : ℕ → List ℕ
four_bytes n = n / 16777216 ∷ (n / 65536 % 256 ∷ (n / 256 % 256 ∷ (n % 256 ∷ [])))

-- a field: its tag, the length of its body in two bytes, the high byte first, and its body
abbrev pub field : ℕ → List ℕ → List ℕ
field tag body = tag ∷ (length body / 256 ∷ (length body % 256 ∷ body))

-- the five bytes that open a file: a field with the letter V that holds the version, 1, in two bytes
abbrev pub opening : List ℕ
opening = 0x56 ∷ (0 ∷ (2 ∷ (0 ∷ (1 ∷ []))))

-- a list is opened by its parent in one byte
abbrev pub list_field : ℕ → List ℕ
list_field parent = field list_tag (parent ∷ [])

-- an entry of the latest list is its marks in four bytes, then its term
abbrev pub entry_field : TermEntry → List ℕ
entry_field e = field entry_tag (four_bytes e.marks ++ e.text)

-- the file is closed by the number of its entries in four bytes
abbrev pub closing_field : ℕ → List ℕ
closing_field n = field closing_tag (four_bytes n)

abbrev pub entry_fields : List TermEntry → List ℕ
entry_fields [] = []
entry_fields (e ∷ es) = entry_field e ++ entry_fields es

abbrev pub list_fields : List TermList → List ℕ
list_fields [] = []
list_fields (l ∷ ls) = list_field l.parent ++ (entry_fields l.entries ++ list_fields ls)

-- the entries of all lists, list after list
abbrev pub all_entries : List TermList → List TermEntry
all_entries [] = []
all_entries (l ∷ ls) = l.entries ++ all_entries ls

-- the file of a tree
abbrev pub written : List TermList → List ℕ
written tree = opening ++ (list_fields tree ++ closing_field (length (all_entries tree)))

-- there is a first list, and its parent is 0
abbrev pub RootFirst : List TermList → Type 0
RootFirst [] = ⊥
RootFirst (l ∷ ls) = l.parent ≡ 0

-- each term is a key
abbrev pub Keyed : List TermEntry → Type 0
Keyed [] = Unit {0}
Keyed (e ∷ es) = (key_fault e.text ≡ None) × Keyed es

-- what a file can hold
pub record IsTree (tree : List TermList) : Type 0 where
  pub root : RootFirst tree
  pub keys : Keyed (all_entries tree)
