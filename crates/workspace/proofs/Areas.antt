-- A workspace area by area: the newest table put in, changed and taken away; the areas that are free. Assumes nothing.
use mathlib.Core.Path.{◌≡◌, sym, ap, ◌∙◌}
use mathlib.Core.List.{List, [], ◌∷◌, ◌++◌, append_assoc}
use Prim.Native.Nat.{ℕ, suc, ◌+◌, ◌-◌, ◌*◌, ◌≤◌, ◌<◌}
use native.Mathlib.Omega.{arith}
use lib.ListN.{length, length-append}
use Rattle.lists.specs.Lists.{All}
use Rattle.tables.specs.Definitions.{Pair}
use Rattle.rows.specs.Parts.{part, put, zeros}
use Rattle.rows.specs.Rows.{table_of}
use Rattle.rows.proofs.Parts.{put-at, part_at, part_low, zeros-long, zeros-append}
use Rattle.rows.proofs.Tables.{row_within, length-table}
use Rattle.workspace.specs.Workspace.{stack_words, workspace_of, Sound}

-- one area more
area-more : (n k : ℕ) → suc n * k ≡ n * k + k
area-more n k = omega arith

module _ (w p : ℕ) where
  abbrev k : ℕ
  k = p * w

  mul-split : (m n : ℕ) → (m + n) * k ≡ m * k + n * k
  mul-split m n = omega arith

  pub table-long : (t : List Pair) → Sound w p t → length (table_of w p t) ≡ k
  table-long t s = length-table w p t s.fit s.few

  pub stack-long : (ts : List (List Pair)) → All (Sound w p) ts → length (stack_words w p ts) ≡ length ts * k
  unfolding stack_words
  stack-long [] s = omega arith
  stack-long (t ∷ ts) s =
      length-append (stack_words w p ts) (table_of w p t)
      ∙ omega (arith, stack-long ts s.1, table-long t s.0, area-more (length ts) k)

  module _ (d : ℕ) (beyond : List ℕ) where
    -- the areas left behind n tables
    abbrev left : ℕ → List ℕ
    left n = zeros ((d - n) * k) ++ beyond

    left-more : (n : ℕ) → n < d → left n ≡ zeros k ++ left (suc n)
    left-more n l =
        let e : (d - n) * k ≡ k + (d - suc n) * k = ap (λ (j : ℕ). j * k) (let z : d - n ≡ suc (d - suc n) = omega arith in z) ∙ omega (arith, area-more (d - suc n) k) in
        ap (λ (j : ℕ). zeros j ++ beyond) e ∙ ap (λ (u : List ℕ). u ++ beyond) (sym (zeros-append k ((d - suc n) * k))) ∙ append_assoc (zeros k) (zeros ((d - suc n) * k)) beyond

    module _ (ts : List (List Pair)) (s : All (Sound w p) ts) where
      -- how long the workspace is
      pub workspace-long : length ts ≤ d → length (workspace_of d w p ts beyond) ≡ d * k + length beyond
      unfolding workspace_of
      workspace-long l =
          let e : length ts * k + (d - length ts) * k ≡ d * k = sym (mul-split (length ts) (d - length ts)) ∙ ap (λ (j : ℕ). j * k) (let z : length ts + (d - length ts) ≡ d = omega arith in z) in
          length-append (stack_words w p ts) (left (length ts)) ∙ ap (λ (j : ℕ). length (stack_words w p ts) + j) (length-append (zeros ((d - length ts) * k)) beyond)
          ∙ omega (arith, e, stack-long ts s, zeros-long ((d - length ts) * k))

      module _ (l : length ts < d) where
        split : workspace_of d w p ts beyond ≡ stack_words w p ts ++ (zeros k ++ left (suc (length ts)))
        unfolding workspace_of
        split = ap (λ (u : List ℕ). stack_words w p ts ++ u) (left-more (length ts) l)

        with-new : (t : List Pair) → stack_words w p ts ++ (table_of w p t ++ left (suc (length ts))) ≡ workspace_of d w p (t ∷ ts) beyond
        unfolding workspace_of stack_words
        with-new t = sym (append_assoc (stack_words w p ts) (table_of w p t) (left (suc (length ts))))

        -- the area behind the tables is free
        pub area-free : part (length ts * k) k (workspace_of d w p ts beyond) ≡ zeros k
        area-free = ap (part (length ts * k) k) split ∙ part_at (length ts * k) k (stack_words w p ts) (zeros k) (left (suc (length ts))) (stack-long ts s) (zeros-long k)

        -- a table put there
        pub pushed : (t : List Pair) → put (length ts * k) k (workspace_of d w p ts beyond) (table_of w p t) ≡ workspace_of d w p (t ∷ ts) beyond
        pushed t =
            ap (λ (u : List ℕ). put (length ts * k) k u (table_of w p t)) split
            ∙ put-at (length ts * k) k (stack_words w p ts) (zeros k) (left (suc (length ts))) (table_of w p t) (stack-long ts s) (zeros-long k) ∙ with-new t

        module _ (t : List Pair) (st : Sound w p t) where
          -- the newest table's area
          pub area-newest : part (length ts * k) k (workspace_of d w p (t ∷ ts) beyond) ≡ table_of w p t
          area-newest = ap (part (length ts * k) k) (sym (with-new t)) ∙ part_at (length ts * k) k (stack_words w p ts) (table_of w p t) (left (suc (length ts))) (stack-long ts s) (table-long t st)

          -- another table in its place; zeros there, which is one table less
          pub changed : (u : List Pair) → put (length ts * k) k (workspace_of d w p (t ∷ ts) beyond) (table_of w p u) ≡ workspace_of d w p (u ∷ ts) beyond
          changed u =
              ap (λ (v : List ℕ). put (length ts * k) k v (table_of w p u)) (sym (with-new t))
              ∙ put-at (length ts * k) k (stack_words w p ts) (table_of w p t) (left (suc (length ts))) (table_of w p u) (stack-long ts s) (table-long t st) ∙ with-new u

          pub popped : put (length ts * k) k (workspace_of d w p (t ∷ ts) beyond) (zeros k) ≡ workspace_of d w p ts beyond
          popped =
              ap (λ (v : List ℕ). put (length ts * k) k v (zeros k)) (sym (with-new t))
              ∙ put-at (length ts * k) k (stack_words w p ts) (table_of w p t) (left (suc (length ts))) (zeros k) (stack-long ts s) (table-long t st) ∙ sym split

    -- the area of the table below the newest one
    pub area-second : (ts : List (List Pair)) → All (Sound w p) ts → (a b : List Pair) → Sound w p a → Sound w p b → suc (length ts) < d
        → part (length ts * k) k (workspace_of d w p (b ∷ a ∷ ts) beyond) ≡ table_of w p a
    area-second ts s a b sa sb l =
        ap (part (length ts * k) k) (sym (pushed (a ∷ ts) (sa, s) l b))
        ∙ part_low (length ts * k) k (suc (length ts) * k) k (workspace_of d w p (a ∷ ts) beyond) (table_of w p b) (omega (arith, area-more (length ts) k))
        (omega (arith, workspace-long (a ∷ ts) (sa, s) (omega arith), row_within (suc (length ts)) d k l))
        ∙ area-newest ts s (omega arith) a sa

    -- the last area is scratch
    pub scratch-free : (n : ℕ) (ts : List (List Pair)) → All (Sound w p) ts → d ≡ suc n → length ts ≤ n → part (n * k) k (workspace_of d w p ts beyond) ≡ zeros k
    unfolding workspace_of
    scratch-free n ts s e l =
        let m : ℕ = n - length ts in
        let areas : (d - length ts) * k ≡ m * k + k = ap (λ (j : ℕ). j * k) (let z : d - length ts ≡ suc m = omega (arith, e) in z) ∙ area-more m k in
        let up : length ts * k + m * k ≡ n * k = sym (mul-split (length ts) m) ∙ ap (λ (j : ℕ). j * k) (let z : length ts + m ≡ n = omega arith in z) in
        let front : workspace_of d w p ts beyond ≡ (stack_words w p ts ++ zeros (m * k)) ++ (zeros k ++ beyond) =
        ap (λ (u : List ℕ). stack_words w p ts ++ (u ++ beyond)) (ap zeros areas ∙ sym (zeros-append (m * k) k)) ∙ simp append_assoc in
        ap (part (n * k) k) front
        ∙ part_at (n * k) k (stack_words w p ts ++ zeros (m * k)) (zeros k) beyond (length-append (stack_words w p ts) (zeros (m * k)) ∙ omega (arith, up, stack-long ts s, zeros-long (m * k))) (zeros-long k)
