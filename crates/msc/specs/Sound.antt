-- Which documents are well formed.
use Rattle.msc.specs.declared.label.Body.{Body}
use Rattle.msc.specs.declared.label.Body.TheVariants.{End as final, Node as node}
use Rattle.msc.specs.declared.label.Label.{Label}
use Rattle.std.specs.Prelude.{ℕ, suc, max, Bool, true, false, cond, not, ◌&&◌, ◌||◌, ltb, List, [], ◌∷◌, ◌++◌, length, ◌==◌, nat_le, nat_lt}
use Rattle.msc.specs.Doc.{Doc, Chart, chart_events, all_events, chart_names, label_names, out_count}
use Rattle.msc.specs.Shortest.{text_of}
use Rattle.msc.specs.Spelling.{every, distinct, is_name, is_vocabulary}
use Rattle.msc.specs.declared.event.Event.{Event}
use Rattle.msc.specs.declared.event.Event.TheVariants.{Out, In, Action}

-- at least low and at most high
abbrev pub many : {A : Type 0} → ℕ → ℕ → List A → Bool
many low high xs = nat_le low (length xs) && nat_le (length xs) high

-- a kind's names: names, all different
abbrev pub names : List (List ℕ) → List (List ℕ) → Bool
names ws ns = every (is_name ws) ns && distinct ns

-- the partner of an event of instance i is one of k instances, and another
abbrev pub partner : ℕ → ℕ → Event → Bool
partner k i (Out n q) = nat_lt q k && not (q == i)
partner k i (In n p) = nat_lt p k && not (p == i)
partner k i (Action n) = true

-- the parts from instance i on: partners are right, and past the k instances parts are empty
abbrev pub parts : ℕ → ℕ → List (List Event) → Bool
parts k i [] = true
parts k i (p ∷ ps) = every (partner k i) p && (cond (nat_lt i k) true (length p == 0) && parts k (suc i) ps)

-- eight parts, at most 64 events and 32 outs
abbrev pub chart : ℕ → Chart → Bool
chart k c = length c.parts == 8 && (parts k 0 c.parts && (nat_le (length (chart_events c)) 64 && nat_le (out_count (chart_events c)) 32))

-- names are numbered by first appearance: with m message and a action names seen, each number is at most
-- one that is seen or the next, and in the end all m' and a' names are seen
abbrev pub numbered : ℕ → ℕ → ℕ → ℕ → List Event → Bool
numbered m' a' m a [] = m == m' && a == a'
numbered m' a' m a (Out n q ∷ es) = nat_le n m && numbered m' a' (max m (suc n)) a es
numbered m' a' m a (In n p ∷ es) = nat_le n m && numbered m' a' (max m (suc n)) a es
numbered m' a' m a (Action n ∷ es) = nat_le n a && numbered m' a' m (max a (suc n)) es

abbrev pub among : List ℕ → ℕ → Bool
among [] l = false
among (k ∷ ks) l = l == k || among ks l

abbrev pub differ : List ℕ → Bool
differ [] = true
differ (k ∷ ks) = not (among ks k) && differ ks

-- one to eight different labels of n
abbrev pub list : ℕ → List ℕ → Bool
list n ls = many 1 8 ls && (every (λ l. ltb l n) ls && differ ls)

abbrev pub body : ℕ → ℕ → Body → Bool
body c n final = true
body c n (node k ls) = nat_lt k c && list n ls

-- the text of a document has at most 32,768 bytes
abbrev pub most : ℕ
most = 32768

unfoldable pub well_formed : Doc → Bool
well_formed d =
    is_vocabulary d.words
    && (is_name d.words d.title
    && (many 1 8 d.instances && names d.words d.instances
    && (nat_le (length d.messages) 128 && names d.words d.messages
    && (nat_le (length d.actions) 128 && names d.words d.actions
    && (nat_le (length d.charts) 64 && names d.words (chart_names d.charts ++ (d.graph ∷ []))
    && (every (chart (length d.instances)) d.charts
    && (nat_le (length (all_events d.charts)) 1024
    && (numbered (length d.messages) (length d.actions) 0 0 (all_events d.charts)
    && (many 1 64 d.labels && names d.words (label_names d.labels)
    && (every (λ (l : Label). body (length d.charts) (length d.labels) l.body) d.labels
    && (list (length d.labels) d.start
    && nat_le (length (text_of d)) most)))))))))))
