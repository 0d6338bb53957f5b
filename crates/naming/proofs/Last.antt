-- What an atom is called is the last name that it got, in the words of the list of commands (02, Item 1). Assumes nothing.
use mathlib.Core.Path.{◌≡◌, refl, sym, ap, ◌∙◌, subst}
use mathlib.Core.Logic.{◌⊎◌, inl, inr, ◌↔◌}
use mathlib.Core.Bool.{Bool, true, false, false≢true}
use mathlib.Core.List.{List, [], ◌∷◌, ◌++◌, append-nil, append_assoc, cons-ne-nil, append-ne-nil_of_right_ne-nil, head-eq_of_cons-eq, tail-eq_of_cons-eq}
use Prim.Native.Nat.{ℕ, ◌+◌}
use native.Mathlib.Omega.{arith}
use lib.Dec.{eqb}
use lib.Seq.{append_snoc}
use borrow.Author.Tests.{eq-eqb, eqb-true}
use Rattle.lists.specs.Lists.{All}
use Rattle.lists.proofs.Members.{all_append, all-parts}
use Rattle.expression.specs.declared.NewAtom.{NewAtom}
use Rattle.expression.specs.declared.Command.{Command}
use Rattle.expression.specs.declared.Command.TheVariants.{Atom, Rule, Union, Relabel, Connect, Name}
use Rattle.expression.specs.declared.Counts.{Counts}
use Rattle.expression.specs.Effects.{effect}
use Rattle.expression.specs.Reading.{new_atoms, Reading, faulty, whole, reading}
use Rattle.expression.specs.Checks.{Passed, check_sheet}
use Rattle.expression.specs.Names.{Naming, Named, Nameless, Refused, newest_by, called_by, called_from, called, called_in, unless_refused, name_of, atoms_in, NoLeafBy, Newest, NameGot, LastName}
use Rattle.semantics.proofs.Readings.{commands_of}
use Rattle.decisions.specs.Decisions.{commands_in}

-- ---- two elements of one list

module _ {A : Type 0} where
  -- x, behind xs and before us, stands before y, behind ys and before vs
  abbrev Before : List A → A → List A → List A → A → List A → Type 0
  Before xs x us ys y vs = (mid : List A) × (ys ≡ xs ++ (x ∷ mid)) × (us ≡ mid ++ (y ∷ vs))

  no_part : (xs : List A) (x : A) (us : List A) → [] ≡ xs ++ (x ∷ us) → ⊥
  no_part xs x us e = append-ne-nil_of_right_ne-nil xs (cons-ne-nil x us) (sym e)

  -- they are the same, or one stands before the other
  two-parts : (xs : List A) (x : A) (us ys : List A) (y : A) (vs : List A) → xs ++ (x ∷ us) ≡ ys ++ (y ∷ vs)
      → ((xs ≡ ys) × (x ≡ y) × (us ≡ vs)) ⊎ (Before xs x us ys y vs ⊎ Before ys y vs xs x us)
  two-parts [] x us [] y vs e = inl (refl, head-eq_of_cons-eq e, tail-eq_of_cons-eq e)
  two-parts [] x us (w ∷ ys) y vs e = inr (inl (ys, ap (λ v. v ∷ ys) (sym (head-eq_of_cons-eq e)), tail-eq_of_cons-eq e))
  two-parts (w ∷ xs) x us [] y vs e = inr (inr (xs, ap (λ v. v ∷ xs) (head-eq_of_cons-eq e), sym (tail-eq_of_cons-eq e)))
  two-parts (w ∷ xs) x us (v ∷ ys) y vs e = step (two-parts xs x us ys y vs (tail-eq_of_cons-eq e))
    where
      same : w ≡ v
      same = head-eq_of_cons-eq e

      step : ((xs ≡ ys) × (x ≡ y) × (us ≡ vs)) ⊎ (Before xs x us ys y vs ⊎ Before ys y vs xs x us)
          → ((w ∷ xs ≡ v ∷ ys) × (x ≡ y) × (us ≡ vs)) ⊎ (Before (w ∷ xs) x us (v ∷ ys) y vs ⊎ Before (v ∷ ys) y vs (w ∷ xs) x us)
      step (inl (p, q, r)) = inl (cc, q, r)
      step (inr (inl (mid, p, q))) = inr (inl (mid, cc, q))
      step (inr (inr (mid, p, q))) = inr (inr (mid, cc, q))

  -- of the last element: it is that one, or that one stands before it
  last-part : (xs : List A) (x : A) (ys : List A) (y : A) (vs : List A) → xs ++ (x ∷ []) ≡ ys ++ (y ∷ vs) → ((xs ≡ ys) × (x ≡ y)) ⊎ Before ys y vs xs x []
  last-part xs x ys y vs e = step (two-parts xs x [] ys y vs e)
    where
      step : ((xs ≡ ys) × (x ≡ y) × ([] ≡ vs)) ⊎ (Before xs x [] ys y vs ⊎ Before ys y vs xs x []) → ((xs ≡ ys) × (x ≡ y)) ⊎ Before ys y vs xs x []
      step (inl (p, q, r)) = inl (p, q)
      step (inr (inl (mid, p, q))) = absurd (no_part mid y vs q)
      step (inr (inr b)) = inr b

-- ---- one command more: how many atoms there are, and which leaf is the newest

atoms-more : (cs : List Command) (d : Command) → atoms_in (cs ++ (d ∷ [])) ≡ atoms_in cs + new_atoms d
unfolding atoms_in
atoms-more [] d = omega arith
atoms-more (b ∷ cs) d = let h = atoms-more cs d in omega arith

module _ (c : ℕ) (cs : List Command) where
  newest-atom : (g : NewAtom) → atoms_in cs ≡ c → Newest c (cs ++ (Atom g ∷ []))
  newest-atom g e = record { atom = g; earlier = cs; later = []; parts = refl; number = e; no_leaf = tt }

  newest-still : (d : Command) → NoLeafBy (effect d) → Newest c cs → Newest c (cs ++ (d ∷ []))
  newest-still d l h = record {
    atom = h.atom;
    earlier = h.earlier;
    later = h.later ++ (d ∷ []);
    parts = ap (λ xs. xs ++ (d ∷ [])) h.parts ∙ append_assoc h.earlier (Atom h.atom ∷ h.later) (d ∷ []);
    number = h.number;
    no_leaf = all_append _ h.later (d ∷ []) h.no_leaf (l, tt);
  }

  -- and no other way
  newest-is : (d : Command) → Newest c (cs ++ (d ∷ [])) → ((g : NewAtom) × (d ≡ Atom g) × (atoms_in cs ≡ c)) ⊎ (NoLeafBy (effect d) × Newest c cs)
  newest-is d h = step (last-part cs d h.earlier (Atom h.atom) h.later h.parts)
    where
      step : ((cs ≡ h.earlier) × (d ≡ Atom h.atom)) ⊎ Before h.earlier (Atom h.atom) h.later cs d []
          → ((g : NewAtom) × (d ≡ Atom g) × (atoms_in cs ≡ c)) ⊎ (NoLeafBy (effect d) × Newest c cs)
      step (inl (p, q)) = inl (h.atom, q, ap atoms_in p ∙ h.number)
      step (inr (mid, p, q)) =
          let (others, l) = all-parts (λ x. NoLeafBy (effect x)) mid (d ∷ []) (subst (All (λ x. NoLeafBy (effect x))) q h.no_leaf) in
          inr (l.0, record { atom = h.atom; earlier = h.earlier; later = mid; parts = p; number = h.number; no_leaf = others })

-- b says whether the newest leaf is atom c
abbrev Marks : ℕ → Bool → List Command → Type 0
Marks c b cs = (b ≡ true) ↔ Newest c cs

-- what brings no leaf leaves it
marks-still : (c : ℕ) (b : Bool) (cs : List Command) (d : Command) → NoLeafBy (effect d) → Marks c b cs → Marks c b (cs ++ (d ∷ []))
unfolding effect
marks-still c b cs d l (f, h) = (λ e. newest-still c cs d l (f e), λ n. step (newest-is c cs d n))
  where
    step : ((g : NewAtom) × (d ≡ Atom g) × (atoms_in cs ≡ c)) ⊎ (NoLeafBy (effect d) × Newest c cs) → b ≡ true
    step (inl (g, p, e)) = absurd (subst (λ x. NoLeafBy (effect x)) p l)
    step (inr (l', n)) = h n

marks-more : (c : ℕ) (b : Bool) (cs : List Command) (d : Command) → Marks c b cs → Marks c (newest_by c (atoms_in cs) b (effect d)) (cs ++ (d ∷ []))
unfolding effect
marks-more c b cs (Atom g) h = (λ e. newest-atom c cs g (eqb-true (atoms_in cs) c e), λ n. step (newest-is c cs (Atom g) n))
  where
    step : ((i : NewAtom) × (Atom g ≡ Atom i) × (atoms_in cs ≡ c)) ⊎ (⊥ × Newest c cs) → eqb (atoms_in cs) c ≡ true
    step (inl (i, p, e)) = eq-eqb (atoms_in cs) c e
    step (inr (l, n)) = absurd l
marks-more c b cs (Rule g) h = (λ e. absurd (false≢true e), λ n. step (newest-is c cs (Rule g) n))
  where
    step : ((i : NewAtom) × (Rule g ≡ Atom i) × (atoms_in cs ≡ c)) ⊎ (⊥ × Newest c cs) → false ≡ true
    step (inl (i, p, e)) = let z : ◌≡◌ {A = ℕ} 0 1 = cc in absurd (omega arith)
    step (inr (l, n)) = absurd l
marks-more c b cs Union h = marks-still c b cs Union tt h
marks-more c b cs (Relabel i j) h = marks-still c b cs (Relabel i j) tt h
marks-more c b cs (Connect k i j) h = marks-still c b cs (Connect k i j) tt h
marks-more c b cs (Name at) h = marks-still c b cs (Name at) tt h

-- ---- one command more: what the atom is called

-- what the commands say of atom c where it is called r
abbrev Calls : ℕ → List Command → Naming → Type 0
Calls c cs (Named at) = LastName c at cs
Calls c cs Nameless = (at : ℕ) (earlier later : List Command) → NameGot c at cs earlier later → ⊥
Calls c cs (Refused n at) = ⊥

-- a command that names another, or none, leaves it
calls-still : (c : ℕ) (cs : List Command) (d : Command) → ((at : ℕ) → d ≡ Name at → Newest c cs → ⊥) → (r : Naming) → Calls c cs r → Calls c (cs ++ (d ∷ [])) r
calls-still c cs d other (Named at) L = record {
  earlier = L.earlier;
  later = L.later ++ (d ∷ []);
  got = record { parts = ap (λ xs. xs ++ (d ∷ [])) L.got.parts ∙ append_assoc L.earlier (Name at ∷ L.later) (d ∷ []); newest = L.got.newest };
  last = λ at' mid rest e n. step at' mid rest n (last-part L.later d mid (Name at') rest e);
}
  where
    step : (at' : ℕ) (mid rest : List Command) → Newest c (L.earlier ++ (Name at ∷ mid)) → ((L.later ≡ mid) × (d ≡ Name at')) ⊎ Before mid (Name at') rest L.later d [] → ⊥
    step at' mid rest n (inl (p, q)) = other at' q (subst (Newest c) (sym (L.got.parts ∙ ap (λ xs. L.earlier ++ (Name at ∷ xs)) p)) n)
    step at' mid rest n (inr (between, p, q)) = L.last at' mid between p n
calls-still c cs d other Nameless none = λ at earlier later g. step at earlier later g.newest (last-part cs d earlier (Name at) later g.parts)
  where
    step : (at : ℕ) (earlier later : List Command) → Newest c earlier → ((cs ≡ earlier) × (d ≡ Name at)) ⊎ Before earlier (Name at) later cs d [] → ⊥
    step at earlier later n (inl (p, q)) = other at q (subst (Newest c) (sym p) n)
    step at earlier later n (inr (between, p, q)) = none at earlier between (record { parts = p; newest = n })
calls-still c cs d other (Refused n at) h = h

calls-more : (c : ℕ) (b : Bool) (cs : List Command) → Marks c b cs → (r : Naming) (d : Command) → Calls c cs r → Calls c (cs ++ (d ∷ [])) (called_by b r d)
unfolding called_by
calls-more c true cs h r (Name at) k = record {
  earlier = cs;
  later = [];
  got = record { parts = refl; newest = h.0 refl };
  last = λ at' mid rest e n. no_part mid (Name at') rest e;
}
calls-more c false cs h r (Name at) k = calls-still c cs (Name at) (λ at' p n. false≢true (h.1 n)) r k
calls-more c b cs h r (Atom g) k = calls-still c cs (Atom g) (λ at p n. let z : ◌≡◌ {A = ℕ} 0 1 = cc in omega arith) r k
calls-more c b cs h r (Rule g) k = calls-still c cs (Rule g) (λ at p n. let z : ◌≡◌ {A = ℕ} 0 1 = cc in omega arith) r k
calls-more c b cs h r Union k = calls-still c cs Union (λ at p n. let z : ◌≡◌ {A = ℕ} 0 1 = cc in omega arith) r k
calls-more c b cs h r (Relabel i j) k = calls-still c cs (Relabel i j) (λ at p n. let z : ◌≡◌ {A = ℕ} 0 1 = cc in omega arith) r k
calls-more c b cs h r (Connect l i j) k = calls-still c cs (Connect l i j) (λ at p n. let z : ◌≡◌ {A = ℕ} 0 1 = cc in omega arith) r k

-- ---- all commands

from-calls : (c : ℕ) (b : Bool) (r : Naming) (done cs : List Command) → Marks c b done → Calls c done r → Calls c (done ++ cs) (called_from c (atoms_in done) b r cs)
unfolding called_from
from-calls c b r done [] h k = rw append-nil k
from-calls c b r done (d ∷ cs) h k =
    rw (← append_snoc done d cs, ← atoms-more done d) (from-calls c (newest_by c (atoms_in done) b (effect d)) (called_by b r d) (done ++ (d ∷ [])) cs (marks-more c b done d h) (calls-more c b done h r d k))

called-calls : (c : ℕ) (cs : List Command) → Calls c cs (called c cs)
unfolding called atoms_in
called-calls c cs =
    from-calls c false Nameless [] cs (λ e. absurd (false≢true e), λ n. absurd (no_part n.earlier (Atom n.atom) n.later n.parts))
    (λ at earlier later g. no_part earlier (Name at) later g.parts)

-- there is one last name
last_one : (c at at' : ℕ) (cs : List Command) → LastName c at cs → LastName c at' cs → at ≡ at'
last_one c at at' cs L M = step (two-parts L.earlier (Name at) L.later M.earlier (Name at') M.later (sym L.got.parts ∙ M.got.parts))
  where
    step : ((L.earlier ≡ M.earlier) × (Name at ≡ Name at') × (L.later ≡ M.later))
        ⊎ (Before L.earlier (Name at) L.later M.earlier (Name at') M.later ⊎ Before M.earlier (Name at') M.later L.earlier (Name at) L.later)
        → at ≡ at'
    step (inl (p, q, r)) = cc
    step (inr (inl (mid, p, q))) = absurd (L.last at' mid M.later q (subst (Newest c) p M.got.newest))
    step (inr (inr (mid, p, q))) = absurd (M.last at mid L.later q (subst (Newest c) p L.got.newest))

-- what atom c is called is the last name that it got
pub last_name : (c at : ℕ) (cs : List Command) → (called c cs ≡ Named at) ↔ LastName c at cs
last_name c at cs = (λ e. subst (Calls c cs) e (called-calls c cs), λ L. step (called c cs) (called-calls c cs) L)
  where
    step : (r : Naming) → Calls c cs r → LastName c at cs → r ≡ Named at
    step (Named at') M L = ap Named (last_one c at' at cs M L)
    step Nameless none L = absurd (none at L.earlier L.later L.got)
    step (Refused n p) none L = absurd none

-- and it is called nothing if it got none
pub no_name : (c : ℕ) (cs : List Command) → (called c cs ≡ Nameless) ↔ ((at : ℕ) (earlier later : List Command) → NameGot c at cs earlier later → ⊥)
no_name c cs = (λ e. subst (Calls c cs) e (called-calls c cs), λ none. step (called c cs) (called-calls c cs) none)
  where
    step : (r : Naming) → Calls c cs r → ((at : ℕ) (earlier later : List Command) → NameGot c at cs earlier later → ⊥) → r ≡ Nameless
    step (Named at) L none = absurd (none at L.earlier L.later L.got)
    step Nameless f none = refl
    step (Refused n p) f none = absurd f

-- ---- the call

name-called : (K : ℕ) (s : List ℕ) (c : ℕ) {z : Counts} → check_sheet K s ≡ Passed z → name_of K s c ≡ called c (commands_of (commands_in (reading K s)))
unfolding name_of called_in called called_from commands_in
name-called K s c h = ap (λ x. unless_refused x (called_in c (reading K s))) h ∙ step (reading K s)
  where
    step : (r : Reading) → called_in c r ≡ called c (commands_of (commands_in r))
    step (faulty n at) = refl
    step (whole cs y) = refl

module _ (K : ℕ) (s : List ℕ) (c : ℕ) {z : Counts} (passed : check_sheet K s ≡ Passed z) where
  pub name-last : (at : ℕ) → (name_of K s c ≡ Named at) ↔ LastName c at (commands_of (commands_in (reading K s)))
  name-last at = rw (name-called K s c passed) (last_name c at (commands_of (commands_in (reading K s))))

  pub name-none : (name_of K s c ≡ Nameless) ↔ ((at : ℕ) (earlier later : List Command) → NameGot c at (commands_of (commands_in (reading K s))) earlier later → ⊥)
  name-none = rw (name-called K s c passed) (no_name c (commands_of (commands_in (reading K s))))
