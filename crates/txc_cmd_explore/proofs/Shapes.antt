-- An operation does the same to channels of one shape, whatever their items are.
use Rattle.std.proofs.Common.{◌≡◌, refl, sym, ◌∙◌, ap, ℕ, zero, suc, Bool, true, false, ◌&&◌, Option, Some, None}
use Rattle.std.proofs.Common.{List, [], ◌∷◌, ◌++◌, map, length, slice_get, slice_index_or, set, length-append, arith}
use Rattle.std.proofs.Common.{if◌then◌else◌}
use Rattle.std.specs.Prelude.{nat_le}
use Rattle.txc_base.specs.declared.act.Act.{Act}
use Rattle.txc_base.specs.declared.act.Act.TheVariants as act
use Rattle.txc_base.specs.declared.cause.Cause.TheVariants as cause
use Rattle.txc_base.specs.declared.item.Item.{Item}
use Rattle.txc_base.specs.declared.kind.Kind.{Kind}
use Rattle.txc_base.specs.declared.limits.TheConstants.{MAX_READERS}
use Rattle.txc_base.specs.declared.op.Op.{Op}
use Rattle.txc_base.specs.declared.op.Op.TheVariants.{Write, TryWrite, Read, TryRead, Peek, TryPeek, PutBack, Close}
use Rattle.txc_base.specs.declared.op.Op.TheVariants.{IsClosed, IsEmpty, IsFull, Dup, CloneReader, Flush, Length}
use Rattle.txc_base.specs.declared.reply.Reply.{Reply}
use Rattle.txc_base.specs.declared.reply.Reply.TheVariants as reply
use Rattle.txc_base.specs.declared.source.Source.{Source}
use Rattle.txc_base.specs.declared.source.Source.TheVariants.{Lit, Last}
use Rattle.txc_base.specs.Channel.{Channel, list_of}
use Rattle.txc_base.specs.Kinds.{is_bounded}
use Rattle.txc_base.specs.Operation.{Did, Replies, Waits, Stops, operate, body_of, with_body, with_list, while_open}
use Rattle.txc_base.specs.Operation.{with_room, with_place, with_left, is_full}
use Rattle.txc_base.specs.Operation.{is_plain_bounded, next_written, next_back, says, wrote, put_back, taking, showing}
use Rattle.txc_base.specs.Operation.{closing, reader_made}
use Rattle.txc_base.specs.Reply.{last_read_after}

-- how many items each reader has left
abbrev pub lengths : List (List Item) → List ℕ
lengths lists = map (λ (list : List Item). length list) lists

-- there is a body
abbrev pub there : Option ℕ → Bool
there None = false
there (Some body) = true

-- two channels of this kind and bound, of one shape
pub record Alike (kind : Kind) (bound : ℕ) (c d : Channel) : Type 0 where
  pub kind_c : c.kind ≡ kind
  pub kind_d : d.kind ≡ kind
  pub bound_c : c.bound ≡ bound
  pub bound_d : d.bound ≡ bound
  pub closed : c.closed ≡ d.closed
  pub left : lengths c.lists ≡ lengths d.lists

-- after both replies a body was read last, or after neither
abbrev pub AlikeReplies : Reply → Reply → Type 0
AlikeReplies r s = (a b : Option ℕ) → there a ≡ there b → there (last_read_after r a) ≡ there (last_read_after s b)

-- an operation did the same to both
abbrev pub AlikeDid : Kind → ℕ → Did → Did → Type 0
AlikeDid kind bound (Replies r acts c) (Replies s acts' d) = Alike kind bound c d × AlikeReplies r s
AlikeDid kind bound (Waits cause) (Waits why) = cause ≡ why
AlikeDid kind bound (Stops stop) (Stops other) = stop ≡ other
AlikeDid kind bound one other = ⊥

-- both lists of a reader are there, and have as many items, or neither is there
abbrev AlikeList : Option (List Item) → Option (List Item) → Type 0
AlikeList None None = Unit {0}
AlikeList (Some a) (Some b) = length a ≡ length b
AlikeList a b = ⊥

get_alike : (xs ys : List (List Item)) (r : ℕ) → lengths xs ≡ lengths ys → AlikeList (slice_get xs r) (slice_get ys r)
get_alike [] [] r e = tt
get_alike [] (y ∷ ys) r e = absurd (cc)
get_alike (x ∷ xs) [] r e = absurd (cc)
get_alike (x ∷ xs) (y ∷ ys) zero e = cc
get_alike (x ∷ xs) (y ∷ ys) (suc r) e = get_alike xs ys r cc

first_alike : (xs ys : List (List Item)) → lengths xs ≡ lengths ys
    → length (slice_index_or xs 0 []) ≡ length (slice_index_or ys 0 [])
first_alike [] [] e = refl
first_alike [] (y ∷ ys) e = absurd (cc)
first_alike (x ∷ xs) [] e = absurd (cc)
first_alike (x ∷ xs) (y ∷ ys) e = cc

set_alike : (xs ys : List (List Item)) (r : ℕ) (a b : List Item) → lengths xs ≡ lengths ys → length a ≡ length b
    → lengths (set xs r a) ≡ lengths (set ys r b)
set_alike [] [] r a b e h = refl
set_alike [] (y ∷ ys) r a b e h = absurd (cc)
set_alike (x ∷ xs) [] r a b e h = absurd (cc)
set_alike (x ∷ xs) (y ∷ ys) zero a b e h = let tail : lengths xs ≡ lengths ys = cc in λ i. h i ∷ tail i
set_alike (x ∷ xs) (y ∷ ys) (suc r) a b e h =
    let tail : lengths xs ≡ lengths ys = cc in
    let head : length x ≡ length y = cc in
    λ i. head i ∷ set_alike xs ys r a b tail h i

push_alike : (xs ys : List (List Item)) (a b : Item) → lengths xs ≡ lengths ys
    → lengths (map (λ list. list ++ a ∷ []) xs) ≡ lengths (map (λ list. list ++ b ∷ []) ys)
push_alike [] [] a b e = refl
push_alike [] (y ∷ ys) a b e = absurd (cc)
push_alike (x ∷ xs) [] a b e = absurd (cc)
push_alike (x ∷ xs) (y ∷ ys) a b e =
    let tail : lengths xs ≡ lengths ys = cc in
    let head : length x ≡ length y = cc in
    let more : length (x ++ a ∷ []) ≡ length (y ++ b ∷ []) =
    omega (arith, head, length-append x (a ∷ []), length-append y (b ∷ [])) in
    λ i. more i ∷ push_alike xs ys a b tail i

more_alike : (xs ys : List (List Item)) (a b : List Item) → lengths xs ≡ lengths ys → length a ≡ length b
    → lengths (xs ++ a ∷ []) ≡ lengths (ys ++ b ∷ [])
more_alike [] [] a b e h = λ i. h i ∷ []
more_alike [] (y ∷ ys) a b e h = absurd (cc)
more_alike (x ∷ xs) [] a b e h = absurd (cc)
more_alike (x ∷ xs) (y ∷ ys) a b e h =
    let tail : lengths xs ≡ lengths ys = cc in
    let head : length x ≡ length y = cc in
    λ i. head i ∷ more_alike xs ys a b tail h i

many_alike : (xs ys : List (List Item)) → lengths xs ≡ lengths ys → length xs ≡ length ys
many_alike [] [] e = refl
many_alike [] (y ∷ ys) e = absurd (cc)
many_alike (x ∷ xs) [] e = absurd (cc)
many_alike (x ∷ xs) (y ∷ ys) e = let tail : lengths xs ≡ lengths ys = cc in ap suc (many_alike xs ys tail)

source_alike : (a b : Option ℕ) → there a ≡ there b → (source : Source)
    → there (body_of a source) ≡ there (body_of b source)
source_alike a b e (Lit body) = refl
source_alike a b e Last = e

-- a reply that leaves what was read last
keeps : (a b : Option ℕ) → there a ≡ there b → there a ≡ there b
keeps a b e = e

module _ (kind : Kind) (bound : ℕ) where
  if_alike : (t u : Bool) (a b c d : Did) → t ≡ u → AlikeDid kind bound a c → AlikeDid kind bound b d
      → AlikeDid kind bound (if t then a else b) (if u then c else d)
  if_alike true true a b c d e x y = x
  if_alike false false a b c d e x y = y
  if_alike true false a b c d e x y = absurd (cc)
  if_alike false true a b c d e x y = absurd (cc)

  body_alike : (o p : Option ℕ) (f g : ℕ → Did) → there o ≡ there p
      → ((a b : ℕ) → AlikeDid kind bound (f a) (g b)) → AlikeDid kind bound (with_body o f) (with_body p g)
  body_alike None None f g e h = refl
  body_alike (Some a) (Some b) f g e h = h a b
  body_alike None (Some b) f g e h = absurd (cc)
  body_alike (Some a) None f g e h = absurd (cc)

  list_alike : (o p : Option (List Item)) (f g : List Item → Did) → AlikeList o p
      → ((a b : List Item) → length a ≡ length b → AlikeDid kind bound (f a) (g b))
      → AlikeDid kind bound (with_list o f) (with_list p g)
  list_alike None None f g e h = refl
  list_alike (Some a) (Some b) f g e h = h a b e
  list_alike None (Some b) f g e h = absurd e
  list_alike (Some a) None f g e h = absurd e

  open_alike : (c d : Channel) (a b : Did) → Alike kind bound c d → AlikeDid kind bound a b
      → AlikeDid kind bound (while_open c a) (while_open d b)
  open_alike c d a b x h = if_alike c.closed d.closed _ a _ b x.closed (x, keeps) h

  full_alike : (c d : Channel) → Alike kind bound c d → is_full c ≡ is_full d
  full_alike c d x = λ i. nat_le ((x.bound_c ∙ sym x.bound_d) i) (first_alike c.lists d.lists x.left i)

  room_alike : (c d : Channel) (a b a' b' : Did) → Alike kind bound c d → AlikeDid kind bound a a'
      → AlikeDid kind bound b b' → AlikeDid kind bound (with_room c a b) (with_room d a' b')
  room_alike c d a b a' b' x h k =
      if_alike (is_bounded c.kind && is_full c) (is_bounded d.kind && is_full d) a b a' b'
      (λ i. is_bounded ((x.kind_c ∙ sym x.kind_d) i) && full_alike c d x i) h k

  state_alike : (c d : Channel) (a b : Did) → Alike kind bound c d → AlikeDid kind bound a b
      → AlikeDid kind bound (with_place c a) (with_place d b)
  state_alike c d a b x h =
      if_alike (nat_le MAX_READERS (length c.lists)) (nat_le MAX_READERS (length d.lists)) _ a _ b
      (ap (λ n. nat_le MAX_READERS n) (many_alike c.lists d.lists x.left)) refl h

  wrote_alike : (c d : Channel) (a b : Item) → Alike kind bound c d
      → AlikeDid kind bound (wrote c a) (wrote d b)
  wrote_alike c d a b x = (
    record {
      kind_c = x.kind_c;
      kind_d = x.kind_d;
      bound_c = x.bound_c;
      bound_d = x.bound_d;
      closed = x.closed;
      left = push_alike c.lists d.lists a b x.left;
    },
    keeps,
  )

  left_alike : (c d : Channel) (r : ℕ) (a b : List Item) → Alike kind bound c d → length a ≡ length b
      → Alike kind bound (with_left c r a) (with_left d r b)
  left_alike c d r a b x e = record {
    kind_c = x.kind_c;
    kind_d = x.kind_d;
    bound_c = x.bound_c;
    bound_d = x.bound_d;
    closed = x.closed;
    left = set_alike c.lists d.lists r a b x.left e;
  }

  back_alike : (c d : Channel) (r : ℕ) (a b : List Item) (i j : Item) → Alike kind bound c d → length a ≡ length b
      → AlikeDid kind bound (put_back c r a i) (put_back d r b j)
  back_alike c d r a b i j x e = (
    record {
      kind_c = x.kind_c;
      kind_d = x.kind_d;
      bound_c = x.bound_c;
      bound_d = x.bound_d;
      closed = x.closed;
      left = set_alike c.lists d.lists r (i ∷ a) (j ∷ b) x.left (ap suc e);
    },
    keeps,
  )

  reader_alike : (c d : Channel) (f g : ℕ → Act) (a b : List Item) → Alike kind bound c d → length a ≡ length b
      → AlikeDid kind bound (reader_made c f a) (reader_made d g b)
  reader_alike c d f g a b x e = state_alike c d _ _ x (
    record {
      kind_c = x.kind_c;
      kind_d = x.kind_d;
      bound_c = x.bound_c;
      bound_d = x.bound_d;
      closed = x.closed;
      left = more_alike c.lists d.lists a b x.left e;
    },
    keeps,
  )

  taking_alike : (c d : Channel) (r : ℕ) (a b : Did) (xs ys : List Item) → Alike kind bound c d
      → AlikeDid kind bound a b → length xs ≡ length ys
      → AlikeDid kind bound (taking c r a xs) (taking d r b ys)
  taking_alike c d r a b [] [] x h e = open_alike c d a b x h
  taking_alike c d r a b [] (i ∷ ys) x h e = absurd (omega (arith, e))
  taking_alike c d r a b (i ∷ xs) [] x h e = absurd (omega (arith, e))
  taking_alike c d r a b (i ∷ xs) (j ∷ ys) x h e =
      (left_alike c d r xs ys x (omega (arith, e)), λ o p same. refl)

  showing_alike : (c d : Channel) (a b : Did) (xs ys : List Item) → Alike kind bound c d
      → AlikeDid kind bound a b → length xs ≡ length ys
      → AlikeDid kind bound (showing c a xs) (showing d b ys)
  showing_alike c d a b [] [] x h e = open_alike c d a b x h
  showing_alike c d a b [] (i ∷ ys) x h e = absurd (omega (arith, e))
  showing_alike c d a b (i ∷ xs) [] x h e = absurd (omega (arith, e))
  showing_alike c d a b (i ∷ xs) (j ∷ ys) x h e = (x, λ o p same. refl)

  closing_alike : (c d : Channel) → Alike kind bound c d → AlikeDid kind bound (closing c) (closing d)
  closing_alike c d x = if_alike c.closed d.closed _ _ _ _ x.closed (x, keeps) (
    record {
      kind_c = x.kind_c;
      kind_d = x.kind_d;
      bound_c = x.bound_c;
      bound_d = x.bound_d;
      closed = refl;
      left = x.left;
    },
    keeps,
  )

  -- an operation does the same to both
  pub op_alike : (op : Op) (seat : ℕ) (c d : Channel) (a b : Option ℕ) → Alike kind bound c d → there a ≡ there b
      → AlikeDid kind bound (operate c seat a op) (operate d seat b op)
  op_alike (Write chan body) seat c d a b x e =
      body_alike (body_of a body) (body_of b body)
      (λ n. while_open c (with_room c (Waits cause.Full) (wrote c (next_written c seat n))))
      (λ n. while_open d (with_room d (Waits cause.Full) (wrote d (next_written d seat n))))
      (source_alike a b e body)
      (λ m n. open_alike c d _ _ x (room_alike c d (Waits cause.Full) (wrote c (next_written c seat m))
      (Waits cause.Full) (wrote d (next_written d seat n)) x refl
      (wrote_alike c d (next_written c seat m) (next_written d seat n) x)))
  op_alike (TryWrite chan body) seat c d a b x e =
      body_alike (body_of a body) (body_of b body)
      (λ n. while_open c (with_room c (says reply.Full c) (wrote c (next_written c seat n))))
      (λ n. while_open d (with_room d (says reply.Full d) (wrote d (next_written d seat n))))
      (source_alike a b e body)
      (λ m n. open_alike c d _ _ x (room_alike c d (says reply.Full c) (wrote c (next_written c seat m))
      (says reply.Full d) (wrote d (next_written d seat n)) x (x, keeps)
      (wrote_alike c d (next_written c seat m) (next_written d seat n) x)))
  op_alike (Read chan reader) seat c d a b x e =
      list_alike (list_of c reader) (list_of d reader) (taking c reader (Waits cause.Empty))
      (taking d reader (Waits cause.Empty)) (get_alike c.lists d.lists reader x.left)
      (λ xs ys same. taking_alike c d reader (Waits cause.Empty) (Waits cause.Empty) xs ys x refl same)
  op_alike (TryRead chan reader) seat c d a b x e =
      list_alike (list_of c reader) (list_of d reader) (taking c reader (says reply.Empty c))
      (taking d reader (says reply.Empty d)) (get_alike c.lists d.lists reader x.left)
      (λ xs ys same. taking_alike c d reader (says reply.Empty c) (says reply.Empty d) xs ys x (x, keeps) same)
  op_alike (Peek chan reader) seat c d a b x e =
      list_alike (list_of c reader) (list_of d reader) (showing c (Waits cause.Empty)) (showing d (Waits cause.Empty))
      (get_alike c.lists d.lists reader x.left)
      (λ xs ys same. showing_alike c d (Waits cause.Empty) (Waits cause.Empty) xs ys x refl same)
  op_alike (TryPeek chan reader) seat c d a b x e =
      list_alike (list_of c reader) (list_of d reader) (showing c (says reply.Empty c)) (showing d (says reply.Empty d))
      (get_alike c.lists d.lists reader x.left)
      (λ xs ys same. showing_alike c d (says reply.Empty c) (says reply.Empty d) xs ys x (x, keeps) same)
  op_alike (PutBack chan reader body) seat c d a b x e =
      body_alike (body_of a body) (body_of b body)
      (λ n. with_list (list_of c reader) (λ list. while_open c
      (if is_plain_bounded c.kind && is_full c then Waits cause.Full else put_back c reader list (next_back c seat n))))
      (λ n. with_list (list_of d reader) (λ list. while_open d
      (if is_plain_bounded d.kind && is_full d then Waits cause.Full else put_back d reader list (next_back d seat n))))
      (source_alike a b e body)
      (λ m n. list_alike (list_of c reader) (list_of d reader)
      (λ list. while_open c
      (if is_plain_bounded c.kind && is_full c then Waits cause.Full else put_back c reader list (next_back c seat m)))
      (λ list. while_open d
      (if is_plain_bounded d.kind && is_full d then Waits cause.Full else put_back d reader list (next_back d seat n)))
      (get_alike c.lists d.lists reader x.left)
      (λ xs ys same. open_alike c d _ _ x
      (if_alike (is_plain_bounded c.kind && is_full c) (is_plain_bounded d.kind && is_full d) (Waits cause.Full)
      (put_back c reader xs (next_back c seat m)) (Waits cause.Full) (put_back d reader ys (next_back d seat n))
      (λ i. is_plain_bounded ((x.kind_c ∙ sym x.kind_d) i) && full_alike c d x i) refl
      (back_alike c d reader xs ys (next_back c seat m) (next_back d seat n) x same))))
  op_alike (Close chan) seat c d a b x e = closing_alike c d x
  op_alike (IsClosed chan) seat c d a b x e = (x, keeps)
  op_alike (IsEmpty chan reader) seat c d a b x e =
      list_alike (list_of c reader) (list_of d reader) _ _ (get_alike c.lists d.lists reader x.left)
      (λ xs ys same. (x, keeps))
  op_alike (IsFull chan) seat c d a b x e = (x, keeps)
  op_alike (Dup chan) seat c d a b x e = reader_alike c d act.Begun act.Begun [] [] x refl
  op_alike (CloneReader chan reader) seat c d a b x e =
      list_alike (list_of c reader) (list_of d reader) _ _ (get_alike c.lists d.lists reader x.left)
      (λ xs ys same. reader_alike c d (act.Cloned reader) (act.Cloned reader) xs ys x same)
  op_alike (Flush chan reader) seat c d a b x e =
      list_alike (list_of c reader) (list_of d reader) _ _ (get_alike c.lists d.lists reader x.left)
      (λ xs ys same. (left_alike c d reader [] [] x refl, keeps))
  op_alike (Length chan) seat c d a b x e = (x, keeps)
