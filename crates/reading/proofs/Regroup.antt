-- Steps one after the other: what a text's pieces come to makes up what the text comes to.
use Rattle.std.proofs.Common.{◌≡◌, ℕ, List, refl, ap, ◌∙◌}
use Rattle.lexis.specs.Steps.{Step, got, bad, and_then}
use Rattle.lexis.specs.declared.refusal.Refusal.{Refusal}

-- steps may be grouped either way
regroup : {A B C : Type 0} (m : Step A) (k : A → ℕ → List ℕ → Step B) (l : B → ℕ → List ℕ → Step C) → and_then (and_then m k) l ≡ and_then m (λ a p s. and_then (k a p s) l)
regroup (got a p s) k l = refl
regroup (bad e) k l = refl

-- the same continuation behind steps that come to the same
then : {A B : Type 0} (m : Step A) (k l : A → ℕ → List ℕ → Step B) → ((a : A) (p : ℕ) (s : List ℕ) → k a p s ≡ l a p s) → and_then m k ≡ and_then m l
then (got a p s) k l h = h a p s
then (bad e) k l h = refl

-- what stands ahead of the instances, whatever the steps are
ahead : {A B C D : Type 0} (word : ℕ → List ℕ → Step A) (name : ℕ → List ℕ → Step (B × ℕ)) (semi : ℕ → List ℕ → Step C) (k : B → ℕ → List ℕ → Step D) (p : ℕ) (s : List ℕ)
    → and_then (and_then (word p s) λ _ p s. and_then (name p s) λ n p s. and_then (semi p s) λ _ p s. got n.0 p s) k
    ≡ and_then (word p s) (λ _ p s. and_then (name p s) λ n p s. and_then (semi p s) λ _ p s. k n.0 p s)
ahead word name semi k p s =
    regroup (word p s) _ _
    ∙ then (word p s) _ _ (λ a p s. regroup (name p s) _ _
    ∙ then (name p s) _ _ (λ n p s. regroup (semi p s) _ _))

-- what stands behind the charts, likewise
behind : {A B C D E F : Type 0} (list : ℕ → List ℕ → Step A) (lines : ℕ → List ℕ → Step B) (semi : ℕ → List ℕ → Step C) (word : ℕ → List ℕ → Step D) (end : ℕ → List ℕ → Step E) (f : A × B → F) (p : ℕ) (s : List ℕ)
    → and_then (and_then (list p s) λ a p s. and_then (lines p s) λ b p s. and_then (semi p s) λ _ p s. and_then (word p s) λ _ p s. and_then (semi p s) λ _ p s. and_then (end p s) λ _ p s. got (a, b) p s) (λ g p s. got (f g) p s)
    ≡ and_then (list p s) (λ a p s. and_then (lines p s) λ b p s. and_then (semi p s) λ _ p s. and_then (word p s) λ _ p s. and_then (semi p s) λ _ p s. and_then (end p s) λ _ p s. got (f (a, b)) p s)
behind list lines semi word end f p s =
    regroup (list p s) _ _
    ∙ then (list p s) _ _ (λ a p s. regroup (lines p s) _ _
    ∙ then (lines p s) _ _ (λ b p s. regroup (semi p s) _ _
    ∙ then (semi p s) _ _ (λ _ p s. regroup (word p s) _ _
    ∙ then (word p s) _ _ (λ _ p s. regroup (semi p s) _ _
    ∙ then (semi p s) _ _ (λ _ p s. regroup (end p s) _ _)))))

-- all of a text, likewise
pub whole : {A B C D E G H I J F : Type 0} (word : ℕ → List ℕ → Step A) (name : ℕ → List ℕ → Step (B × ℕ)) (semi : ℕ → List ℕ → Step C) (insts : ℕ → List ℕ → Step D) (charts : D → ℕ → List ℕ → Step E)
    (list : ℕ → List ℕ → Step G) (lines : E → ℕ → List ℕ → Step H) (word' : ℕ → List ℕ → Step I) (end : ℕ → List ℕ → Step J) (f : B → E → G × H → F) (p : ℕ) (s : List ℕ)
    → and_then (and_then (word p s) λ _ p s. and_then (name p s) λ n p s. and_then (semi p s) λ _ p s. got n.0 p s) (λ t p s. and_then (insts p s) λ d p s. and_then (charts d p s) λ e p s.
    and_then (and_then (list p s) λ a p s. and_then (lines e p s) λ b p s. and_then (semi p s) λ _ p s. and_then (word' p s) λ _ p s. and_then (semi p s) λ _ p s. and_then (end p s) λ _ p s. got (a, b) p s) (λ g p s. got (f t e g) p s))
    ≡ and_then (word p s) (λ _ p s. and_then (name p s) λ n p s. and_then (semi p s) λ _ p s. and_then (insts p s) λ d p s. and_then (charts d p s) λ e p s.
    and_then (list p s) λ a p s. and_then (lines e p s) λ b p s. and_then (semi p s) λ _ p s. and_then (word' p s) λ _ p s. and_then (semi p s) λ _ p s. and_then (end p s) λ _ p s. got (f n.0 e (a, b)) p s)
whole word name semi insts charts list lines word' end f p s =
    ahead word name semi (λ t p s. and_then (insts p s) λ d p s. and_then (charts d p s) λ e p s.
    and_then (and_then (list p s) λ a p s. and_then (lines e p s) λ b p s. and_then (semi p s) λ _ p s. and_then (word' p s) λ _ p s. and_then (semi p s) λ _ p s. and_then (end p s) λ _ p s. got (a, b) p s) (λ g p s. got (f t e g) p s)) p s
    ∙ then (word p s) _ _ (λ _ p s. then (name p s) _ _ (λ n p s. then (semi p s) _ _ (λ _ p s. then (insts p s) _ _ (λ d p s. then (charts d p s) _ _ (λ e p s.
    behind list (lines e) semi word' end (f n.0 e) p s)))))

-- four pieces, each under words us at a place p of a text whose rest is s; the words stay as they are
module _ {T D M F : Type 0} (head : List (List ℕ) → ℕ → List ℕ → Step T) (insts : List (List ℕ) → ℕ → List ℕ → Step D) (charts : List (List ℕ) → D → ℕ → List ℕ → Step (D × T)) (tail : List (List ℕ) → List (List ℕ) → ℕ → List ℕ → Step M) (names : D → List (List ℕ)) (f : T → D × T → M → F) where
  unfoldable pub chain : List (List ℕ) → ℕ → List ℕ → Step F
  chain us p s =
      and_then (head us p s) λ t p s.
      and_then (insts us p s) λ d p s.
      and_then (charts us d p s) λ e p s.
      and_then (tail us (names e.0) p s) λ g p s.
      got (f t e g) p s

  module _ (us : List (List ℕ)) (p : ℕ) (s : List ℕ) where
    at_head : (m : Step T) → m ≡ head us p s → and_then m (λ t p s. and_then (insts us p s) λ d p s. and_then (charts us d p s) λ e p s. and_then (tail us (names e.0) p s) λ g p s. got (f t e g) p s) ≡ chain us p s
    unfolding chain
    at_head m h = ap (λ m. and_then m (λ t p s. and_then (insts us p s) λ d p s. and_then (charts us d p s) λ e p s. and_then (tail us (names e.0) p s) λ g p s. got (f t e g) p s)) h

    pub bad_head : (e : Refusal) → bad e ≡ head us p s → bad e ≡ chain us p s
    bad_head e h = at_head (bad e) h

    module _ (t : T) (us1 : List (List ℕ)) (p1 : ℕ) (s1 : List ℕ) (h : got t p1 s1 ≡ head us p s) (w1 : us1 ≡ us) where
      at_insts : (m : Step D) → m ≡ insts us1 p1 s1 → and_then m (λ d p s. and_then (charts us1 d p s) λ e p s. and_then (tail us1 (names e.0) p s) λ g p s. got (f t e g) p s) ≡ chain us p s
      at_insts m i =
          ap (λ m. and_then m (λ d p s. and_then (charts us1 d p s) λ e p s. and_then (tail us1 (names e.0) p s) λ g p s. got (f t e g) p s)) i
          ∙ ap (λ vs. and_then (insts vs p1 s1) (λ d p s. and_then (charts vs d p s) λ e p s. and_then (tail vs (names e.0) p s) λ g p s. got (f t e g) p s)) w1
          ∙ at_head (got t p1 s1) h

      pub bad_insts : (e : Refusal) → bad e ≡ insts us1 p1 s1 → bad e ≡ chain us p s
      bad_insts e i = at_insts (bad e) i

      module _ (d : D) (us2 : List (List ℕ)) (p2 : ℕ) (s2 : List ℕ) (i : got d p2 s2 ≡ insts us1 p1 s1) (w2 : us2 ≡ us1) where
        at_charts : (m : Step (D × T)) → m ≡ charts us2 d p2 s2 → and_then m (λ e p s. and_then (tail us2 (names e.0) p s) λ g p s. got (f t e g) p s) ≡ chain us p s
        at_charts m c =
            ap (λ m. and_then m (λ e p s. and_then (tail us2 (names e.0) p s) λ g p s. got (f t e g) p s)) c
            ∙ ap (λ vs. and_then (charts vs d p2 s2) (λ e p s. and_then (tail vs (names e.0) p s) λ g p s. got (f t e g) p s)) w2
            ∙ at_insts (got d p2 s2) i

        pub bad_charts : (e : Refusal) → bad e ≡ charts us2 d p2 s2 → bad e ≡ chain us p s
        bad_charts e c = at_charts (bad e) c

        module _ (b : D) (w : T) (us3 : List (List ℕ)) (p3 : ℕ) (s3 : List ℕ) (c : got (b, w) p3 s3 ≡ charts us2 d p2 s2) (w3 : us3 ≡ us2) (ns : List (List ℕ)) (are : ns ≡ names b) where
          at_tail : (m : Step M) → m ≡ tail us3 ns p3 s3 → and_then m (λ g p s. got (f t (b, w) g) p s) ≡ chain us p s
          at_tail m g =
              ap (λ m. and_then m (λ g p s. got (f t (b, w) g) p s)) g
              ∙ ap (λ n. and_then (tail us3 n p3 s3) (λ g p s. got (f t (b, w) g) p s)) are
              ∙ ap (λ vs. and_then (tail vs (names b) p3 s3) (λ g p s. got (f t (b, w) g) p s)) w3
              ∙ at_charts (got (b, w) p3 s3) c

          pub bad_tail : (e : Refusal) → bad e ≡ tail us3 ns p3 s3 → bad e ≡ chain us p s
          bad_tail e g = at_tail (bad e) g

          pub got_tail : (g : M) (p4 : ℕ) (s4 : List ℕ) → got g p4 s4 ≡ tail us3 ns p3 s3 → got (f t (b, w) g) p4 s4 ≡ chain us p s
          got_tail g p4 s4 l = at_tail (got g p4 s4) l
