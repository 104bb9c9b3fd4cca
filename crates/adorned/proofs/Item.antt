-- An element of an array that stands in a local: a place of its own, read where it lies and put back. Assumes `Logic`.
use mathlib.Core.Path.{◌≡◌, ◌∙◌, ap, subst}
use Prim.Native.Nat.{ℕ, zero, suc, ◌+◌, ◌<◌}
use native.Mathlib.Nat.{not-suc-le-zero, le_of_suc-le-suc}
use mathlib.Core.List.{List, [], ◌∷◌, map}
use lib.ListN.{length, get_or, set, length-set}
use lib.Seq.{set-get_or}
use seplogic.Ra.Ura.{Ura}
use mir.Syntax.{Ty, ty_array}
use mir.Val.{Val}
use base.Logic.{SProp, ent, sep, wand, all, all_e, apply∗}
use base.Fml.{Share, fat}
use prog.Memory.{size}
use prog.Model.{elems}
use types.Logic.{Logic}
use types.Kit.{Item, ‵, raw, ◌⊛◌, ◌$◌, ◌∵◌, !, qed, by, move, use1, use2, split, assume, frame, each, done}
use types.Part.{Part}
use denote.Array.{each as each_of, array_val, Array}
use denote.RattleType.{RattleType}
use denote.Shadow.{shadow}
use denote.Laws.{Is, Tells}
use denote.Index.{place}

module _ {M : Type 1} {𝓤 : Ura M} (𝓛 : Logic 𝓤) (q : Share) (τ : Ty) where
  -- the way back: any value u at the place gives the elements with u there
  open 𝓛 use {H}

  abbrev Back : List Val → ℕ → ℕ → ℕ → Val → SProp 𝓤
  Back us i b o u = wand 𝓤 (H.at q τ b (place (size τ) o i) u) (elems 𝓤 H q τ b o (set us i u))

  taken : (us : List Val) (i : ℕ) (d : Val) (b o : ℕ) → i < length us → ent 𝓤 (elems 𝓤 H q τ b o us) (sep 𝓤 (H.at q τ b (place (size τ) o i) (get_or us i d)) (all 𝓤 (Back us i b o)))
  taken [] i d b o l = absurd (not-suc-le-zero l)
  taken (u ∷ us) zero d b o l =
      qed 𝓛 ((‵ (fat q τ b o u) ⊛ raw (elems 𝓤 H q τ b (o + size τ) us)) ∷ []) ∵ split ! $ frame ! $
      each ! (Back (u ∷ us) zero b o) (λ w. assume ! (‵ (fat q τ b o w)) $ frame ! $ done !)
  taken (u ∷ us) (suc i) d b o l =
      qed 𝓛 ((‵ (fat q τ b o u) ⊛ raw (elems 𝓤 H q τ b (o + size τ) us)) ∷ []) ∵ split ! $ move ! (1 ∷ []) $
      use1 𝓛 (‵ (fat q τ b (place (size τ) (o + size τ) i) (get_or us i d)) ⊛ raw (all 𝓤 (Back us i b (o + size τ)))) (taken us i d b (o + size τ) (le_of_suc-le-suc l)) $ split ! $ frame ! $
      each ! (Back (u ∷ us) (suc i) b o) (λ w. assume ! (‵ (fat q τ b (place (size τ) (o + size τ) i) w)) $ move ! (1 ∷ []) $
      use1 𝓛 (raw (Back us i b (o + size τ) w)) (all_e 𝓤 (Back us i b (o + size τ)) w) $ move ! (1 ∷ 0 ∷ []) $
      use2 𝓛 (raw (elems 𝓤 H q τ b (o + size τ) (set us i w))) (apply∗ 𝓤 (H.at q τ b (place (size τ) (o + size τ) i) w) (elems 𝓤 H q τ b (o + size τ) (set us i w))) $ move ! (1 ∷ 0 ∷ []) $ frame ! $ done !)

module _ {M : Type 1} {𝓤 : Ura M} {𝓛 : Logic 𝓤} {K : Type 0} where
  open 𝓛 use {H}

  pub item : K → {q : Share} {τ : Ty} {n b o : ℕ} (us : List Val) (i : ℕ) (d : Val) → i < length us → length us ≡ n
      → Part K 𝓛 (‵ (fat q (ty_array τ n) b o (array_val us))) q τ b (place (size τ) o i) (get_or us i d) (λ u. ‵ (fat q (ty_array τ n) b o (array_val (set us i u))))
  item t {q} {τ} {n} {b} {o} us i d l e = record {
    out = qed 𝓛 (‵ (fat q (ty_array τ n) b o (array_val us)) ∷ []) ∵ use1 𝓛 (raw (elems 𝓤 H q τ b o us)) (𝓛.laws.at_elems q τ n b o us) $
        use1 𝓛 (‵ (fat q τ b (place (size τ) o i) (get_or us i d)) ⊛ raw (all 𝓤 (Back 𝓛 q τ us i b o))) (taken 𝓛 q τ us i d b o l) $ split ! $ frame ! $
        each ! (λ (u : Val). wand 𝓤 (H.at q τ b (place (size τ) o i) u) (H.at q (ty_array τ n) b o (array_val (set us i u)))) (λ u. assume ! (‵ (fat q τ b (place (size τ) o i) u)) $ move ! (1 ∷ []) $
        use1 𝓛 (raw (Back 𝓛 q τ us i b o u)) (all_e 𝓤 (Back 𝓛 q τ us i b o) u) $ move ! (1 ∷ 0 ∷ []) $
        use2 𝓛 (raw (elems 𝓤 H q τ b o (set us i u))) (apply∗ 𝓤 (H.at q τ b (place (size τ) o i) u) (elems 𝓤 H q τ b o (set us i u))) $
        by ! (subst (λ (m : ℕ). ent 𝓤 (elems 𝓤 H q τ b o (set us i u)) (H.at q (ty_array τ m) b o (array_val (set us i u)))) (length-set us i u ∙ e) (𝓛.laws.elems_at q τ b o (set us i u))));
    same = ap {B = Item 𝓤} (λ (ws : List Val). ‵ (fat q (ty_array τ n) b o (array_val ws))) (set-get_or us i d);
  }

-- the relation of an element, at the machine value that the array's has for it
module _ (R : RattleType) (val : R.Denot → Val) (tells : Tells R (Is R) (λ x. val x ∷ [])) (d : R.Denot) where
  each-is : (xs : List R.Denot) (us : List Val) (i : ℕ) → shadow (each_of R.Denot R.own_val xs us) → i < length xs → Is R (get_or xs i d) (get_or (map val xs) i (val d) ∷ [])
  each-is [] us i s l = absurd (not-suc-le-zero l)
  each-is (x ∷ xs) [] i s l = absurd s
  each-is (x ∷ xs) (u ∷ us) zero s l = subst (Is R x) (tells x (u ∷ []) s.0) s.0
  each-is (x ∷ xs) (u ∷ us) (suc i) s l = each-is xs us i s.1 (le_of_suc-le-suc l)

  pub item_is : (n : ℕ) (xs : List R.Denot) (vs : List Val) (i : ℕ) → Is (Array R n) xs vs → i < length xs → Is R (get_or xs i d) (get_or (map val xs) i (val d) ∷ [])
  item_is n xs vs i are l = each-is xs are.0 i are.1.1 l
