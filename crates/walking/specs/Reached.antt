-- What the steps of a walk come to and ask: arrivals, paths, spans that hold entries.
use Rattle.std.specs.Prelude.{◌≡◌, ℕ, ◌-◌, ◌<◌, ◌≤◌, List, length, slice_index_or}
use Rattle.cascade.specs.Trees.{KeyTree, keys_at, path}
use Rattle.register.specs.Answers.{span}
use Rattle.register.specs.declared.answers.Span.{Span}
use Rattle.walking.specs.declared.search.Arrival.{Arrival}

-- a place and the comparisons to find it
abbrev pub arrived : ℕ × ℕ → Arrival
arrived r = record { place = r.0; comparisons = r.1 }

-- the last of some lists
abbrev pub end_of : List ℕ → ℕ
end_of lists = slice_index_or lists (length lists - 1) 0

-- the path to their last
pub record IsPath {K : Type 0} (t : KeyTree K) (lists : List ℕ) : Type 0 where
  pub there : end_of lists < length t
  pub is : lists ≡ path t (end_of lists)

-- entries of a list
pub record SpanOf {K : Type 0} (t : KeyTree K) (s : Span) : Type 0 where
  pub there : s.list < length t
  pub forward : s.first ≤ s.after
  pub within : s.after ≤ length (keys_at t s.list)

abbrev pub no_span : Span
no_span = span 0 0 0

-- entries of lists, in no more spans than the sieve has lists
pub record Spanned {K : Type 0} (t : KeyTree K) (spans : List Span) : Type 0 where
  pub few : length spans ≤ 127
  pub each : (i : ℕ) → i < length spans → SpanOf t (slice_index_or spans i no_span)
