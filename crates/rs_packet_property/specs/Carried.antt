-- The properties that a message carries, and sends on.
use Rattle.std.specs.Prelude.{ℕ, List, [], ◌∷◌, ◌++◌, map, Option, Some, None}
use Rattle.rs_packet_property.specs.declared.property.Property.{Property}
use Rattle.rs_packet_property.specs.declared.property.Property.TheVariants as property
use Rattle.rs_packet_property.specs.Values.{PacketProperties, PropertiesValue}

-- the properties that a message carries
abbrev pub carried : PacketProperties → PropertiesValue
carried values = record {
  format = values.format;
  content_type = values.content_type;
  response_topic = values.response_topic;
  correlation = values.correlation;
  user = values.user;
}

abbrev pub optional : {A : Type 0} → (A → Property) → Option A → List Property
optional make None = []
optional make (Some x) = make x ∷ []

abbrev pub user_property : List ℕ × List ℕ → Property
user_property pair = property.UserProperty pair.0 pair.1

-- 3.3.2.3: the properties of a message, and the Subscription Identifier of the subscription that it answers, in rising order of identifier
abbrev pub replayed : Option ℕ → Option ℕ → PropertiesValue → List Property
replayed expiry subscription properties =
    optional property.PayloadFormatIndicator properties.format
    ++ (optional property.MessageExpiryInterval expiry ++ (optional property.ContentType properties.content_type
    ++ (optional property.ResponseTopic properties.response_topic ++ (optional property.CorrelationData properties.correlation
    ++ (optional property.SubscriptionIdentifier subscription ++ map user_property properties.user)))))
