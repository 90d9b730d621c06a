-- What the laws of a kind give of `times` and `weigh`, where no sum is refused.
use Rattle.std.proofs.Common.{◌≡◌, ℕ, zero, suc, ◌+◌, ◌-◌, ◌*◌, ◌≤◌, Bool, true, List, [], ◌∷◌, sym, refl, ap, ◌∙◌, ap₂, ⊎_elim, mul-le-mul_right, suc-mul, add-mul, suc-add, zero-add, zero-mul, arith}
use Rattle.weights.specs.Laws.{limit}
use Rattle.cuts.specs.Kinds.{Kind, Lawful, AtMost}
use Rattle.cuts.proofs.Rules.{times, weigh, heft, count, Two, relabel, Over}

-- these three owe nothing to the laws
pub weigh_same : {V : Type 0} (K : Kind V) (ls : List (ℕ × ℕ × V)) (f g : ℕ → ℕ → ℕ) → ((x y : ℕ) → f x y ≡ g x y) → weigh K ls f ≡ weigh K ls g
unfolding weigh
weigh_same K [] f g h = refl
weigh_same K (l ∷ ls) f g h = ap₂ (λ n r. K.plus (times K n l.2) r) (h l.0 l.1) (weigh_same K ls f g h)

pub weigh_over : {V : Type 0} (K : Kind V) (G : ℕ → Bool) (ls : List (ℕ × ℕ × V)) (f g : ℕ → ℕ → ℕ) → Over G ls → ((x y : ℕ) → G x ≡ true → G y ≡ true → f x y ≡ g x y) → weigh K ls f ≡ weigh K ls g
unfolding weigh
weigh_over K G [] f g o h = refl
weigh_over K G (l ∷ ls) f g o h = ap₂ (λ n r. K.plus (times K n l.2) r) (h l.0 l.1 o.0 o.1) (weigh_over K G ls f g o.2 h)

pub weigh_relabel : {V : Type 0} (K : Kind V) (ls : List (ℕ × ℕ × V)) (g : ℕ → ℕ) (f : ℕ → ℕ → ℕ) → weigh K (relabel g ls) f ≡ weigh K ls (λ x y. f (g x) (g y))
unfolding weigh
weigh_relabel K [] g f = refl
weigh_relabel K (l ∷ ls) g f = ap (K.plus (times K (f (g l.0) (g l.1)) l.2)) (weigh_relabel K ls g f)

pub heft_relabel : {V : Type 0} (K : Kind V) (g : ℕ → ℕ) (ls : List (ℕ × ℕ × V)) → heft K (relabel g ls) ≡ heft K ls
unfolding heft
heft_relabel K g [] = refl
heft_relabel K g (l ∷ ls) = ap (λ n. K.amount l.2 + n) (heft_relabel K g ls)

pub twice : (n a : ℕ) → n ≤ 2 → n * a ≤ a + a
twice n a h = let k : n * a ≤ 2 * a = mul-le-mul_right a h in omega arith

pub sum_counts : {V : Type 0} (K : Kind V) (ls : List (ℕ × ℕ × V)) (f g : ℕ → ℕ → ℕ) → count K ls (λ x y. f x y + g x y) ≡ count K ls f + count K ls g
unfolding count
sum_counts K [] f g = refl
sum_counts K (l ∷ ls) f g = let ih = sum_counts K ls f g in let e = add-mul (f l.0 l.1) (g l.0 l.1) (K.amount l.2) in omega arith

module _ {V : Type 0} (K : Kind V) (laws : Lawful K) where
  pub same : (x : V) → K.amount x ≤ limit → AtMost K x x
  same x h = ⊎_elim (λ k. k) (λ k. k) (laws.total x x h h)

  pub right : (x : V) → K.amount x ≤ limit → K.plus x K.nothing ≡ x
  right x h = laws.comm x K.nothing (omega (arith, laws.none)) ∙ laws.neutral x h

  pub more : (x y : V) → K.amount x + K.amount y ≤ limit → AtMost K x (K.plus x y)
  more x y h =
      let grown = laws.grow K.nothing y x (omega (arith, laws.none)) (omega arith) (laws.least y (omega arith)) in
      rw (laws.comm x y h) (rw (laws.neutral x (omega arith)) at grown)

  pub left_comm : (x y z : V) → K.amount x + K.amount y + K.amount z ≤ limit → K.plus x (K.plus y z) ≡ K.plus y (K.plus x z)
  left_comm x y z h = sym (laws.assoc x y z h) ∙ ap (λ a. K.plus a z) (laws.comm x y (omega arith)) ∙ laws.assoc y x z (omega arith)

  four : (a b c d : V) → K.amount a + K.amount b + K.amount c + K.amount d ≤ limit → K.plus (K.plus a b) (K.plus c d) ≡ K.plus (K.plus a c) (K.plus b d)
  four a b c d h =
      laws.assoc a b (K.plus c d) (omega (arith, laws.amounts c d (omega arith)))
      ∙ ap (K.plus a) (left_comm b c d (omega arith))
      ∙ sym (laws.assoc a c (K.plus b d) (omega (arith, laws.amounts b d (omega arith))))

  pub times_amount : (n : ℕ) (w : V) → n ≤ 2 → K.amount w + K.amount w ≤ limit → K.amount (times K n w) ≡ n * K.amount w
  unfolding times
  times_amount zero w h k = laws.none ∙ sym (zero-mul (K.amount w))
  times_amount (suc n) w h k =
      let ih = times_amount n w (omega arith) k in
      let cap = twice (suc n) (K.amount w) h in
      let split = suc-mul n (K.amount w) in
      laws.amounts w (times K n w) (omega arith) ∙ omega arith

  times_add : (a b : ℕ) (w : V) → a + b ≤ 2 → K.amount w + K.amount w ≤ limit → times K (a + b) w ≡ K.plus (times K a w) (times K b w)
  unfolding times
  times_add zero b w h k =
      let cap = twice b (K.amount w) (omega arith) in
      rw zero-add (sym (laws.neutral _ (omega (arith, times_amount b w (omega arith) k))))
  times_add (suc a) b w h k =
      let cap = twice (suc a + b) (K.amount w) h in
      let split = add-mul (suc a) b (K.amount w) in
      let split' = suc-mul a (K.amount w) in
      let ea = times_amount a w (omega arith) k in
      let eb = times_amount b w (omega arith) k in
      ap (λ m. times K m w) (suc-add a b) ∙ ap (K.plus w) (times_add a b w (omega arith) k) ∙ sym (laws.assoc _ _ _ (omega arith))

  pub weigh_amounts : (ls : List (ℕ × ℕ × V)) (f : ℕ → ℕ → ℕ) → heft K ls + heft K ls ≤ limit → Two f → (K.amount (weigh K ls f) ≡ count K ls f) × (count K ls f ≤ heft K ls + heft K ls)
  unfolding weigh heft count
  weigh_amounts [] f light two = (laws.none, omega arith)
  weigh_amounts (l ∷ ls) f light two =
      let ih = weigh_amounts ls f (omega arith) two in
      let n = f l.0 l.1 in
      let e = times_amount n l.2 (two l.0 l.1) (omega arith) in
      let cap = twice n (K.amount l.2) (two l.0 l.1) in
      (laws.amounts _ _ (omega arith) ∙ omega arith, omega arith)

  add_in : (ls : List (ℕ × ℕ × V)) (f g : ℕ → ℕ → ℕ) → heft K ls + heft K ls ≤ limit → Two (λ x y. f x y + g x y) → weigh K ls (λ x y. f x y + g x y) ≡ K.plus (weigh K ls f) (weigh K ls g)
  unfolding weigh heft count
  add_in [] f g light two = sym (laws.neutral K.nothing (omega (arith, laws.none)))
  add_in (l ∷ ls) f g light two =
      let n = f l.0 l.1 in
      let m = g l.0 l.1 in
      let here = two l.0 l.1 in
      let wf = weigh_amounts ls f (omega arith) (λ x y. omega (arith, two x y)) in
      let wg = weigh_amounts ls g (omega arith) (λ x y. omega (arith, two x y)) in
      let both = weigh_amounts ls (λ x y. f x y + g x y) (omega arith) two in
      let en = times_amount n l.2 (omega arith) (omega arith) in
      let em = times_amount m l.2 (omega arith) (omega arith) in
      let cap = twice (n + m) (K.amount l.2) here in
      let split = add-mul n m (K.amount l.2) in
      let sums = sum_counts K ls f g in
      ap₂ K.plus (times_add n m l.2 here (omega arith)) (add_in ls f g (omega arith) two) ∙ four _ _ _ _ (omega arith)

  pub weigh_none : (ls : List (ℕ × ℕ × V)) → weigh K ls (λ x y. 0) ≡ K.nothing
  unfolding weigh times
  weigh_none [] = refl
  weigh_none (l ∷ ls) = ap (K.plus K.nothing) (weigh_none ls) ∙ laws.neutral K.nothing (omega (arith, laws.none))

-- what users take: the laws, the links, and that they are light enough to be counted twice
module _ {V : Type 0} (K : Kind V) (laws : Lawful K) (ls : List (ℕ × ℕ × V)) (light : heft K ls + heft K ls ≤ limit) where
  pub weigh_amount : (f : ℕ → ℕ → ℕ) → Two f → K.amount (weigh K ls f) ≡ count K ls f
  weigh_amount f two = (weigh_amounts K laws ls f light two).0

  pub fits : (f : ℕ → ℕ → ℕ) → Two f → K.amount (weigh K ls f) ≤ limit
  fits f two = let e = weigh_amounts K laws ls f light two in omega arith

  pub weigh_add : (f g : ℕ → ℕ → ℕ) → Two (λ x y. f x y + g x y) → weigh K ls (λ x y. f x y + g x y) ≡ K.plus (weigh K ls f) (weigh K ls g)
  weigh_add f g two = add_in K laws ls f g light two

  -- the sum of the two is not refused
  pub fits_both : (f g : ℕ → ℕ → ℕ) → Two (λ x y. f x y + g x y) → K.amount (weigh K ls f) + K.amount (weigh K ls g) ≤ limit
  fits_both f g two =
      let all = weigh_amounts K laws ls (λ x y. f x y + g x y) light two in
      let wf = weigh_amounts K laws ls f light (λ x y. omega (arith, two x y)) in
      let wg = weigh_amounts K laws ls g light (λ x y. omega (arith, two x y)) in
      omega (arith, sum_counts K ls f g)

  pub trans_at : (f g h : ℕ → ℕ → ℕ) → Two f → Two g → Two h → AtMost K (weigh K ls f) (weigh K ls g) → AtMost K (weigh K ls g) (weigh K ls h) → AtMost K (weigh K ls f) (weigh K ls h)
  trans_at f g h tf tg th = laws.trans _ _ _ (fits f tf) (fits g tg) (fits h th)

  pub weigh_mono : (f g : ℕ → ℕ → ℕ) → ((x y : ℕ) → f x y ≤ g x y) → Two g → AtMost K (weigh K ls f) (weigh K ls g)
  weigh_mono f g h two =
      let d = λ (x y : ℕ). g x y - f x y in
      let whole : Two (λ x y. f x y + d x y) = λ x y. omega (arith, h x y, two x y) in
      rw (weigh_same K ls g (λ x y. f x y + d x y) (λ x y. omega (arith, h x y)), weigh_add f d whole) (more K laws _ _ (fits_both f d whole))

  pub grow_by : (f g h : ℕ → ℕ → ℕ) → Two (λ x y. f x y + h x y) → Two (λ x y. g x y + h x y) → AtMost K (weigh K ls f) (weigh K ls g) → AtMost K (weigh K ls (λ x y. f x y + h x y)) (weigh K ls (λ x y. g x y + h x y))
  grow_by f g h tf tg k = rw (weigh_add f h tf, weigh_add g h tg) (laws.grow _ _ _ (fits_both f h tf) (fits_both g h tg) k)

  pub cancel : (f g h : ℕ → ℕ → ℕ) → Two (λ x y. f x y + h x y) → Two (λ x y. g x y + h x y) → AtMost K (weigh K ls (λ x y. f x y + h x y)) (weigh K ls (λ x y. g x y + h x y)) → AtMost K (weigh K ls f) (weigh K ls g)
  cancel f g h tf tg k = laws.shrink _ _ _ (fits_both f h tf) (fits_both g h tg) (rw (weigh_add f h tf, weigh_add g h tg) at k)

  pub both_grow : (f g h k : ℕ → ℕ → ℕ) → Two (λ x y. f x y + h x y) → Two (λ x y. g x y + h x y) → Two (λ x y. g x y + k x y) → AtMost K (weigh K ls f) (weigh K ls g) → AtMost K (weigh K ls h) (weigh K ls k) → AtMost K (weigh K ls (λ x y. f x y + h x y)) (weigh K ls (λ x y. g x y + k x y))
  both_grow f g h k tf tm tg p q =
      let turn = λ (a b : ℕ → ℕ → ℕ). weigh_same K ls (λ x y. a x y + b x y) (λ x y. b x y + a x y) (λ x y. omega arith) in
      trans_at (λ x y. f x y + h x y) (λ x y. g x y + h x y) (λ x y. g x y + k x y) tf tm tg (grow_by f g h tf tm p)
      (rw (turn g h, turn g k) (grow_by h k g (λ x y. omega (arith, tm x y)) (λ x y. omega (arith, tg x y)) q))

  -- what f is to g, that f' is to g', if link by link f' + g is no more than g' + f
  pub transfer : (f g f' g' : ℕ → ℕ → ℕ) → ((x y : ℕ) → f' x y + g x y ≤ g' x y + f x y) → Two (λ x y. g' x y + f x y) → Two (λ x y. g' x y + g x y) → AtMost K (weigh K ls f) (weigh K ls g) → AtMost K (weigh K ls f') (weigh K ls g')
  transfer f g f' g' h tf tg k =
      let low : Two (λ x y. f' x y + g x y) = λ x y. omega (arith, h x y, tf x y) in
      let turn = λ (a b : ℕ → ℕ → ℕ). weigh_same K ls (λ x y. a x y + b x y) (λ x y. b x y + a x y) (λ x y. omega arith) in
      let grown = rw (turn f g', turn g g') at (grow_by f g g' (λ x y. omega (arith, tf x y)) (λ x y. omega (arith, tg x y)) k) in
      cancel f' g' g low tg (trans_at (λ x y. f' x y + g x y) (λ x y. g' x y + f x y) (λ x y. g' x y + g x y) low tf tg (weigh_mono (λ x y. f' x y + g x y) (λ x y. g' x y + f x y) h tf) grown)
