use Rattle.std.proofs.Common.{ℕ, ◌≡◌, ◌+◌, ◌*◌, ◌^◌, ◌<◌, ◌≤◌, None, Some, Option, MatchOption, ltb, arith, rules, pow-add}
use Rattle.std.specs.Option.{is_some, IfSome}
use Rattle.shelves.specs.Slots.{sieve_lists, sieve_depth}
use Rattle.shelves.proofs.Depths.{fits, same_power}
use Rattle.shelves.proofs.slots.depth_of.Goals as goal

abbrev IsDepth : ℕ → ℕ → Type 0
IsDepth v d = (v < sieve_lists) × (d ≡ sieve_depth v) × (2 ^ d ≤ v + 1) × (v + 1 < 2 ^ (d + 1))

depth : (v : ℕ) (r : Option ℕ) {Q : ℕ → Type 0} → is_some r ≡ ltb v sieve_lists → IfSome r Q → ((d : ℕ) → Q d → (2 ^ d ≤ v + 1) × (v + 1 < 2 * 2 ^ d)) → MatchOption r (sieve_lists ≤ v) (IsDepth v)
depth v None e q f = grind (arith, e)
depth v (Some d) e q f =
    let h : v < sieve_lists = grind (arith, e) in
    let p = f d q in
    let t = fits v h in
    (h, same_power (v + 1) _ _ p.0 p.1 t.low t.high, p.0, omega (arith, p.1, pow-add 2 d 1))

pub returns : goal.returns
returns c = depth c.args.list c.then.result c.then.ensures.variant c.then.ensures.some (λ d q. search rules)
