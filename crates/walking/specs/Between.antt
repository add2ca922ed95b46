-- The spans between the stops of two lookups.
use Rattle.std.specs.Prelude.{ℕ, List, map, slice_index_or}
use Rattle.std.specs.List.{range_with_len}
use Rattle.register.specs.Answers.{stop, span}
use Rattle.register.specs.Limits.{most_stops}
use Rattle.register.specs.declared.answers.Span.{Span}
use Rattle.register.specs.declared.answers.Stop.{Stop}

abbrev pub span_at : (low high : List Stop) → ℕ → Span
span_at low high i = span (slice_index_or low i (stop 0 0)).list (slice_index_or low i (stop 0 0)).place (slice_index_or high i (stop 0 0)).place

-- in each row, used or not
abbrev pub spans_between : (low high : List Stop) → List Span
spans_between low high = map (span_at low high) (range_with_len 0 most_stops)
