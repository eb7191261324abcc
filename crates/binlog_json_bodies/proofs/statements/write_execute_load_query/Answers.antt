use Rattle.std.proofs.Common.{◌≡◌, ℕ, Bool, List, [], ◌∷◌, ◌++◌, take, ap, ◌∙◌, append_assoc}
use Rattle.json.specs.Token.{Token, begin_object, end_object}
use Rattle.json_line.specs.Tokens.{object}
use Rattle.binlog_file.specs.EventRefs.{view_of}
use Rattle.binlog_file.specs.Types.{Statement}
use Rattle.binlog_json_bodies.specs.ClientSets.{is_of_maria}
use Rattle.binlog_json_bodies.specs.Statements.{head_members, statement_head, texts_members, statement_texts, loaded_file}
use Rattle.binlog_json_bodies.proofs.statements.write_execute_load_query.Goals as goal

-- The members, one after the other, are an object.
object_added : (line begun headed loaded written new head file texts : List Token) → begun ≡ line ++ begin_object ∷ [] → headed ≡ begun ++ head → loaded ≡ headed ++ file → written ≡ loaded ++ texts
    → new ≡ written ++ end_object ∷ [] → new ≡ line ++ object (head ++ file ++ texts)
object_added line begun headed loaded written new head file texts begins heads loads writes ends = rw (ends, writes, loads, heads, begins) (simp append_assoc)

-- The members of the head, by what its calls return.
head_is : (s : Statement) (thread_id execution_time error_code : ℕ) → thread_id ≡ s.thread_id → execution_time ≡ s.execution_time → error_code ≡ s.error_code
    → head_members thread_id execution_time error_code ≡ statement_head s
head_is s thread_id execution_time error_code thread time error =
    ap (λ (n : ℕ). head_members n execution_time error_code) thread
    ∙ ap (λ (n : ℕ). head_members s.thread_id n error_code) time
    ∙ ap (λ (n : ℕ). head_members s.thread_id s.execution_time n) error

-- Those of the texts.
texts_are : (is_maria : Bool) (s : Statement) (status_vars schema query : List ℕ) → status_vars ≡ take 65535 s.texts.status_vars.0 → schema ≡ take 255 s.texts.schema → query ≡ s.texts.query
    → texts_members is_maria status_vars schema query ≡ statement_texts is_maria s
texts_are is_maria s status_vars schema query vars name text =
    ap (λ (t : List ℕ). texts_members is_maria t schema query) vars
    ∙ ap (λ (t : List ℕ). texts_members is_maria (take 65535 s.texts.status_vars.0) t query) name
    ∙ ap (λ (t : List ℕ). texts_members is_maria (take 65535 s.texts.status_vars.0) (take 255 s.texts.schema) t) text

pub returns : goal.returns
returns c =
    let e = c.args.statement.now in
    let is_maria = is_of_maria (view_of c.args.event.now).fde in
    let head = head_is e.statement c.thread_id.result c.execution_time.result c.error_code.result c.thread_id.ensures c.execution_time.ensures c.error_code.ensures in
    let texts = texts_are is_maria e.statement c.status_vars_raw.result.now c.schema_raw.result.now c.query_raw.result.now c.status_vars_raw.ensures c.schema_raw.ensures c.query_raw.ensures in
    object_added c.args.line.now c.begin_object.new.self c.write_statement_head.new.line c.write_loaded_file.new.line c.write_texts.new.line c.end_object.new.self (statement_head e.statement)
    (loaded_file e) (statement_texts is_maria e.statement) c.in_ok-begin_object.ensures.added
    (c.in_ok-write_statement_head.ensures ∙ ap (λ (t : List Token). c.begin_object.new.self ++ t) head) c.in_ok-write_loaded_file.ensures
    (c.in_ok-write_texts.ensures ∙ ap (λ (t : List Token). c.write_loaded_file.new.line ++ t) texts) c.in_ok-end_object.ensures.added
