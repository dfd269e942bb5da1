-- Lists that a loop writes from the front.
use Rattle.std.proofs.Common.{◌≡◌, ℕ, zero, suc, ◌+◌, ◌<◌, List, [], ◌∷◌, ◌++◌, map, length, take, set, sym, refl, ap, ◌∙◌, add-one}
use Rattle.std.proofs.lemmas.List.{take_more_set, map_push}
use Rattle.linear.specs.Linear.{tab}

tab-suc : {A : Type 0} (n : ℕ) (f : ℕ → A) → tab (suc n) f ≡ tab n f ++ (f n ∷ [])
unfolding tab
tab-suc zero f = refl
tab-suc (suc n) f = ap (λ l. f zero ∷ l) (tab-suc n (λ i. f (suc i)))

pub tab_more : {A : Type 0} (n : ℕ) (f : ℕ → A) → tab (n + 1) f ≡ tab n f ++ (f n ∷ [])
tab_more n f = ap (λ k. tab k f) (add-one n) ∙ tab-suc n f

-- one element more is written
pub written_more : {X V : Type 0} (value : X → V) (f : ℕ → V) (xs : List X) (k : ℕ) (x : X) → k < length xs → map value (take k xs) ≡ tab k f → value x ≡ f k → map value (take (k + 1) (set xs k x)) ≡ tab (k + 1) f
written_more value f xs k x h inv e =
    ap (map value) (take_more_set xs k x h) ∙ map_push value (take k xs) x ∙ (λ t. inv t ++ (e t ∷ [])) ∙ sym (tab_more k f)

pub map-tab : {A B : Type 0} (g : A → B) (n : ℕ) (f : ℕ → A) → map g (tab n f) ≡ tab n (λ k. g (f k))
unfolding tab
map-tab g zero f = refl
map-tab g (suc n) f = ap (λ l. g (f zero) ∷ l) (map-tab g n (λ i. f (suc i)))
