-- Tables of names as they grow while a text is read. Assumes nothing.
use Rattle.std.proofs.Common.{◌≡◌, ℕ, suc, ◌<◌, ◌≤◌, max, true, false, ◌&&◌, leb, List, [], ◌∷◌, ◌++◌, length, get_or, sym, refl, ap, ◌∙◌, subst, append_assoc, append-nil, arith, length-append}
use lib.Seq.{get_or-append_seam}
use Rattle.std.proofs.lemmas.List.{get_or_append_left}
use Rattle.std.proofs.lemmas.Bool.{and_from, le-leb}
use Rattle.msc.specs.Sound.{numbered}
use Rattle.msc.specs.Spelling.{every, has, distinct, is_name}
use Rattle.msc.specs.declared.event.Event.{Event}
use Rattle.msc.specs.declared.event.Event.TheVariants.{Out, In, Action}
use Rattle.forms.proofs.Names.{every_append, distinct_push}

-- at most n names, all different
abbrev pub Table : List (List ℕ) → ℕ → List (List ℕ) → Type 0
Table ws n xs = (every (is_name ws) xs ≡ true) × (distinct xs ≡ true) × (length xs ≤ n)

pub table_push : (ws : List (List ℕ)) (n : ℕ) (xs : List (List ℕ)) (w : List ℕ) → is_name ws w ≡ true → has xs w ≡ false → length xs < n → Table ws n xs → Table ws n (xs ++ (w ∷ []))
table_push ws n xs w h k l (a, b, c) = (every_append (is_name ws) xs (w ∷ []) a (and_from _ _ h refl), distinct_push xs w b k, omega (arith, length-append xs (w ∷ [])))

-- the one list begins with the other
abbrev pub Prefix : List (List ℕ) → List (List ℕ) → Type 0
Prefix xs ys = (zs : List (List ℕ)) × (ys ≡ xs ++ zs)

pub prefix_same : (xs : List (List ℕ)) → Prefix xs xs
prefix_same xs = ([], sym (append-nil xs))

pub prefix_join : (xs ys zs : List (List ℕ)) → Prefix xs ys → Prefix ys zs → Prefix xs zs
prefix_join xs ys zs (a, e) (b, f) = (a ++ b, f ∙ ap (λ y. y ++ b) e ∙ append_assoc xs a b)

-- a name of a list is the name of a longer one
pub prefix_at : (xs ys : List (List ℕ)) (n : ℕ) → Prefix xs ys → n < length xs → get_or ys n [] ≡ get_or xs n []
prefix_at xs ys n (a, e) l = ap (λ y. get_or y n []) e ∙ get_or_append_left xs a [] n l

-- a name that is looked for in a table, and put at its end where it is not there: its number is n
pub data Seen (ws : List (List ℕ)) (w : List ℕ) (n : ℕ) (X X' : List (List ℕ)) : Type 0 where
  old : X' ≡ X → n < length X → get_or X n [] ≡ w → Seen ws w n X X'
  new : X' ≡ X ++ (w ∷ []) → n ≡ length X → has X w ≡ false → length X < 128 → Seen ws w n X X'

module _ (ws : List (List ℕ)) where
  pub seen_table : {w : List ℕ} {n : ℕ} {X X' : List (List ℕ)} → Seen ws w n X X' → is_name ws w ≡ true → Table ws 128 X → Table ws 128 X'
  seen_table (old e l g) h t = subst (Table ws 128) (sym e) t
  seen_table {w} {X} (new e l g k) h t = subst (Table ws 128) (sym e) (table_push ws 128 X w h g k t)

  pub seen_prefix : {w : List ℕ} {n : ℕ} {X X' : List (List ℕ)} → Seen ws w n X X' → Prefix X X'
  seen_prefix {X} (old e l g) = ([], e ∙ sym (append-nil X))
  seen_prefix {w} (new e l g k) = (w ∷ [], e)

  pub seen_low : {w : List ℕ} {n : ℕ} {X X' : List (List ℕ)} → Seen ws w n X X' → n ≤ length X
  seen_low (old e l g) = omega arith
  seen_low (new e l g k) = omega arith

  pub seen_count : {w : List ℕ} {n : ℕ} {X X' : List (List ℕ)} → Seen ws w n X X' → length X' ≡ max (length X) (suc n)
  seen_count (old e l g) = omega (arith, ap length e)
  seen_count {w} {X} (new e l g k) = omega (arith, ap length e, length-append X (w ∷ []))

  pub seen_name : {w : List ℕ} {n : ℕ} {X X' : List (List ℕ)} → Seen ws w n X X' → (M : List (List ℕ)) → Prefix X' M → get_or M n [] ≡ w
  seen_name {w} {n} {X} {X'} (old e l g) M p = prefix_at X' M n p (omega (arith, ap length e)) ∙ ap (λ x. get_or x n []) e ∙ g
  seen_name {w} {n} {X} {X'} (new e l g k) M p =
      prefix_at X' M n p (omega (arith, ap length e, length-append X (w ∷ []))) ∙ ap (λ x. get_or x n []) e ∙ ap (λ n. get_or (X ++ (w ∷ [])) n []) l ∙ get_or-append_seam X w [] []

  -- events read one after another: message names X and action names Y become X' and Y'
  pub record Moves (X Y X' Y' : List (List ℕ)) (es : List Event) : Type 0 where
    pub messages : Table ws 128 X → Table ws 128 X'
    pub actions : Table ws 128 Y → Table ws 128 Y'
    pub front_messages : Prefix X X'
    pub front_actions : Prefix Y Y'
    pub numbers : (m a : ℕ) (fut : List Event) → numbered m a (length X') (length Y') fut ≡ true → numbered m a (length X) (length Y) (es ++ fut) ≡ true

  pub moves_none : (X Y : List (List ℕ)) → Moves X Y X Y []
  moves_none X Y = record { messages = λ t. t; actions = λ t. t; front_messages = prefix_same X; front_actions = prefix_same Y; numbers = λ m a fut h. h }

  pub moves_join : {X Y X' Y' X'' Y'' : List (List ℕ)} {es fs : List Event} → Moves X Y X' Y' es → Moves X' Y' X'' Y'' fs → Moves X Y X'' Y'' (es ++ fs)
  moves_join {X} {Y} {X'} {Y'} {X''} {Y''} {es} {fs} h k = record {
    messages = λ t. k.messages (h.messages t);
    actions = λ t. k.actions (h.actions t);
    front_messages = prefix_join X X' X'' h.front_messages k.front_messages;
    front_actions = prefix_join Y Y' Y'' h.front_actions k.front_actions;
    numbers = λ m a fut e. ap (numbered m a (length X) (length Y)) (append_assoc es fs fut) ∙ h.numbers m a (fs ++ fut) (k.numbers m a fut e);
  }

  pub moves_as : {X Y X' Y' : List (List ℕ)} {es fs : List Event} → es ≡ fs → Moves X Y X' Y' es → Moves X Y X' Y' fs
  moves_as {X} {Y} {X'} {Y'} e h = subst (Moves X Y X' Y') e h

  -- an event with a message
  moves_message : {X Y X' : List (List ℕ)} {w : List ℕ} (e : Event) (n : ℕ) → ((m a k l : ℕ) (fut : List Event) → numbered m a k l (e ∷ fut) ≡ (leb n k && numbered m a (max k (suc n)) l fut)) → Seen ws w n X X' → is_name ws w ≡ true → Moves X Y X' Y (e ∷ [])
  moves_message {X} {Y} {X'} e n is s h = record {
    messages = seen_table s h;
    actions = λ t. t;
    front_messages = seen_prefix s;
    front_actions = prefix_same Y;
    numbers = λ m a fut g. is m a (length X) (length Y) fut ∙ and_from _ _ (le-leb n (length X) (seen_low s)) (ap (λ k. numbered m a k (length Y) fut) (sym (seen_count s)) ∙ g);
  }

  pub moves_out : {X Y X' : List (List ℕ)} {w : List ℕ} (n q : ℕ) → Seen ws w n X X' → is_name ws w ≡ true → Moves X Y X' Y (Out n q ∷ [])
  moves_out n q = moves_message (Out n q) n (λ m a k l fut. refl)

  pub moves_in : {X Y X' : List (List ℕ)} {w : List ℕ} (n q : ℕ) → Seen ws w n X X' → is_name ws w ≡ true → Moves X Y X' Y (In n q ∷ [])
  moves_in n q = moves_message (In n q) n (λ m a k l fut. refl)

  pub moves_action : {X Y Y' : List (List ℕ)} {w : List ℕ} (n : ℕ) → Seen ws w n Y Y' → is_name ws w ≡ true → Moves X Y X Y' (Action n ∷ [])
  moves_action {X} {Y} {Y'} n s h = record {
    messages = λ t. t;
    actions = seen_table s h;
    front_messages = prefix_same X;
    front_actions = seen_prefix s;
    numbers = λ m a fut e. and_from _ _ (le-leb n (length Y) (seen_low s)) (ap (λ k. numbered m a (length X) k fut) (sym (seen_count s)) ∙ e);
  }
