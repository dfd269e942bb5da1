use Rattle.std.proofs.Common.{◌≡◌, List, map, vec_items, Option, Result, subst, sym, ◌∙◌, ap, ◌++◌, rules}
use Rattle.std.specs.Iterator.{Drains, Yields}
use Rattle.std.specs.Result.{MatchResult, OnOk}
use Rattle.std.proofs.lemmas.List.{map-append}
use Rattle.std.proofs.lemmas.Iterator.{YieldsList, YieldsList-from_slice, YieldsList-from_map_by}
use Rattle.std.proofs.lemmas.Iterator.Adapters.{fact_from_extend}
use Rattle.ring.specs.Rings.{integer}
use Rattle.sheet.proofs.rounds.append.Goals as goal

-- what holds of the items of a chain s, of which v reads all, holds where `extend` was passed s
extended : {S A B E Q : Type 0} {steps : S → Option A → S → Type 0} {P : List A → Type 0} {s : S} (v : A → B) (all : List B) (r : Result (Unit {0}) E) → ((it : S) × (xs : List A) × (it ≡ s) × P xs × MatchResult r (λ _. Drains steps it xs) (λ _. (t : S) × Yields steps it xs t)) → YieldsList steps v s all → ((xs : List A) → map v xs ≡ all → P xs → Q) → OnOk r Q
extended {S} {steps = steps} v all r ran chain use_ = fact_from_extend v r ran (λ it b. subst (λ (t : S). YieldsList steps v t all) (sym b) chain) use_

pub returns : goal.returns
returns g c =
    let f = g.F.Ring in
    let was = vec_items c.args.constants.now in
    let zs = c.args.numbers.now in
    extended f.value (map (integer f.ring) zs) c.extend.result c.extend.ensures.ran
    (YieldsList-from_map_by _ f.value (integer f.ring) (YieldsList-from_slice zs cc) c.map.ensures.closure (λ x r q k. search rules))
    (λ xs e h. rw h.0 (map-append f.value was xs ∙ ap (λ l. map f.value was ++ l) e))
